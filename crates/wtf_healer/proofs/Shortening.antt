-- The compact list of a region, whose base was read.
use Rattle.std.proofs.Common.{◌≡◌, ℕ, ◌+◌, ◌<◌, ◌≤◌, ◌++◌, ◌^◌, Bool, true, List, [], ◌∷◌, Option, None, Some, refl, sym, ap, ◌∙◌, subst, arith}
use Rattle.std.specs.List.{All}
use Rattle.std.proofs.lemmas.List.Elements.{All-cons, All-append}
use Rattle.wtf_base.specs.declared.slice.Slice.{Slice}
use Rattle.wtf_overlay.specs.Clips.{Within, clip_list}
use Rattle.wtf_overlay.specs.Compact.{IsCompact}
use Rattle.wtf_overlay.specs.Named.{EachByte}
use Rattle.wtf_overlay.specs.Origin.{Place, origin}
use Rattle.wtf_overlay.specs.declared.part.Entry.{Entry}
use Rattle.wtf_overlay.proofs.Clipping.{Within-nil}
use Rattle.wtf_values.specs.Bases.{IsBelow-none}
use Rattle.wtf_values.specs.declared.region.RegionValue.{RegionValue}
use Rattle.wtf_values.specs.declared.region.Spill.{Spill}
use Rattle.wtf_meta.specs.Lists.{Lists, seen_list}
use Rattle.wtf_meta.specs.Bytes.{EntryBytes}
use Rattle.wtf_meta.proofs.BaseLists.{list_within}
use Rattle.wtf_meta.proofs.RegionBytes.{clipped_bytes}
use Rattle.wtf_healer.specs.Regions.{IsCompacted, list_over}

-- it is the list of the region where each slice decodes to that of its base
over_is : (base : Option Spill) (under list : List Entry) → list_over base under list ≡ seen_list (λ s. Some under) base ++ list
over_is None under list = refl
over_is (Some s) under list = refl

below_all : (es : List Entry) → Within (2 ^ 32) es
below_all [] = Within-nil (2 ^ 32)
below_all (e ∷ es) = let fits : e.off + e.len < 2 ^ 32 = e.fits in All-cons (λ (e : Entry). e.off + e.len ≤ 2 ^ 32) e es (omega arith) (below_all es)

-- a region that is this list
alone : List Entry → RegionValue
alone es = record { end = 2 ^ 32; base = None; list = es; within = below_all es; below = IsBelow-none (2 ^ 32) }

any : Slice → Bool
any s = true

module _ (P : List Place → Bool) where
  pub clipped : (n : ℕ) (es : List Entry) → All (EntryBytes P) es → All (EntryBytes P) (clip_list n es)
  unfolding alone
  clipped n es h = (clipped_bytes P any n (Some (alone es)) (record { base = tt; entries = h })).entries

  over_bytes : (base : Option Spill) (under list : List Entry) → All (EntryBytes P) under → All (EntryBytes P) list
      → All (EntryBytes P) (list_over base under list)
  over_bytes None under list u h = h
  over_bytes (Some s) under list u h = All-append (EntryBytes P) (clip_list s.visible under) list (clipped s.visible under u) h

-- what a list compacts to, of a region that shows that list
pub short_of : (v : RegionValue) (under whole es : List Entry) → whole ≡ list_over v.base under v.list → IsCompact es
    → ((y : ℕ) → origin es y ≡ origin whole y) → ((end : ℕ) → Within end whole → Within end es)
    → ((P : List Place → Bool) → EachByte P whole → EachByte P es) → IsCompacted v under es
short_of v under whole es is compact same within named =
    let one : Lists = λ s. Some under in
    record {
      compact = compact;
      origins = λ y. same y ∙ ap (λ (l : List Entry). origin l y) is;
      within = within v.end (subst (Within v.end) (sym (is ∙ over_is v.base under v.list)) (list_within one v));
      named = λ P u h. named P (subst (EachByte P) (sym is) (over_bytes P v.base under v.list u h));
    }
