-- The compact list of a region that was read.
use Rattle.std.proofs.Common.{◌≡◌, ℕ, ◌+◌, ◌<◌, ◌≤◌, ◌^◌, Bool, List, [], ◌∷◌, Option, None, Some, refl, sym, ap, ◌∙◌, subst, arith}
use Rattle.std.specs.List.{All}
use Rattle.std.proofs.lemmas.List.Elements.{All-nil, All-cons, All-append}
use Rattle.wtf_base.specs.declared.slice.Slice.{Slice}
use Rattle.wtf_dev.specs.Store.{StoreKind}
use Rattle.wtf_overlay.specs.Clips.{Within}
use Rattle.wtf_overlay.specs.Compact.{IsCompact}
use Rattle.wtf_overlay.specs.Named.{EachByte}
use Rattle.wtf_overlay.specs.Origin.{Place, origin}
use Rattle.wtf_overlay.specs.declared.part.Entry.{Entry}
use Rattle.wtf_overlay.proofs.Clipping.{Within-nil}
use Rattle.wtf_values.specs.Bases.{IsBelow-none}
use Rattle.wtf_values.specs.declared.region.RegionValue.{RegionValue}
use Rattle.wtf_values.specs.declared.region.Spill.{Spill}
use Rattle.wtf_meta.specs.Lists.{Lists, TellLists, base_facts, seen_list, list_of}
use Rattle.wtf_meta.specs.Bytes.{EntryBytes, BaseBytes, RegionBytes, ListsBytes}
use Rattle.wtf_meta.proofs.BaseLists.{list_within}
use Rattle.wtf_meta.proofs.RegionBytes.{clipped_bytes}
use Rattle.wtf_region.specs.declared.dev.Dev.{Dev}
use Rattle.wtf_region.specs.Reads.{IsListRead}
use Rattle.wtf_compact.specs.Planned.{IsShortList}

below_all : (es : List Entry) → Within (2 ^ 32) es
below_all [] = Within-nil (2 ^ 32)
below_all (e ∷ es) = let fits : e.off + e.len < 2 ^ 32 = e.fits in All-cons (λ (e : Entry). e.off + e.len ≤ 2 ^ 32) e es (omega arith) (below_all es)

-- a region that is this list
alone : List Entry → RegionValue
alone es = record { end = 2 ^ 32; base = None; list = es; within = below_all es; below = IsBelow-none (2 ^ 32) }

-- one list that every slice decodes to
told_alone : (base : Option Spill) (under : List Entry) → TellLists (λ s. Some under) (base_facts base under)
told_alone None under = tt
told_alone (Some s) under = (refl, tt)

module _ (P : List Place → Bool) (Q : Slice → Bool) where
  seen_bytes : (base : Option Spill) (under : List Entry) → BaseBytes P Q base → ListsBytes P Q (base_facts base under)
      → All (EntryBytes P) (seen_list (λ s. Some under) base)
  unfolding alone
  seen_bytes None under h known = All-nil (EntryBytes P)
  seen_bytes (Some s) under h known =
      (clipped_bytes P Q s.visible (Some (alone under)) (record { base = tt; entries = known.0 h.1 })).entries

  -- the list of a region names what the region and the list of its base name
  list_bytes : (v : RegionValue) (under : List Entry) → RegionBytes P Q v → ListsBytes P Q (base_facts v.base under)
      → All (EntryBytes P) (list_of (λ s. Some under) v)
  list_bytes v under h known = All-append (EntryBytes P) (seen_list (λ s. Some under) v.base) v.list (seen_bytes v.base under h.base known) h.entries

-- what a list compacts to, of a region that was read as that list
pub short_of : {S : Type 0} (kind : StoreKind S) (old new : Dev S) (v : RegionValue) (whole es : List Entry) → IsListRead kind old new v whole → IsCompact es
    → ((y : ℕ) → origin es y ≡ origin whole y) → ((end : ℕ) → Within end whole → Within end es)
    → ((P : List Place → Bool) → EachByte P whole → EachByte P es) → IsShortList kind old new v es
short_of kind old new v whole es read compact same within named =
    let one : Lists = λ s. Some read.under in
    let is : whole ≡ list_of one v = read.is one (told_alone v.base read.under) in
    record {
      under = read.under;
      recalls = read.recalls;
      compact = compact;
      origins = λ lists tell y. same y ∙ ap (λ (l : List Entry). origin l y) (read.is lists tell);
      within = within v.end (subst (Within v.end) (sym is) (list_within one v));
      named = λ P Q h known. named P (subst (EachByte P) (sym is) (list_bytes P Q v read.under h known));
      inside = read.inside;
      told = read.told;
    }
