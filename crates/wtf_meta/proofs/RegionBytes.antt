-- A region that was changed names only bytes that it named before or that the change brings, and holes.
use Rattle.std.proofs.Common.{◌≡◌, ℕ, ◌+◌, ◌<◌, ◌≤◌, ◌^◌, ◌⊎◌, min, nat_lt, Bool, true, List, [], ◌∷◌, map, Option, None, Some, refl, sym, ap, ◌∙◌, subst}
use Rattle.std.proofs.Common.{arith, inl, inr}
use Rattle.std.specs.List.{All}
use Rattle.std.proofs.lemmas.Bool.{cases_lt, cond-true, cond-false, lt-ltb, le-ltb}
use Rattle.std.proofs.lemmas.List.Elements.{All-nil, All-cons, All-append, All-push, All-head, All-tail}
use Rattle.wtf_base.specs.declared.slice.Slice.{Slice}
use Rattle.wtf_base.specs.declared.slice.Extents.{Extents}
use Rattle.wtf_base.specs.declared.slice.Extents.TheVariants.{One, Two, Three}
use Rattle.wtf_base.specs.Extents.{pointers_to}
use Rattle.wtf_overlay.specs.Lengths.{HasLength}
use Rattle.wtf_overlay.specs.Origin.{Place, place_in, part_origin}
use Rattle.wtf_overlay.specs.Clips.{part_front, front, below_end, below_end_some, below_end_within, clip_case, clip_entry, clip_list}
use Rattle.wtf_overlay.specs.declared.part.Part.{Part}
use Rattle.wtf_overlay.specs.declared.part.Part.TheVariants.{Zero, Held}
use Rattle.wtf_overlay.specs.declared.part.Entry.{Entry}
use Rattle.wtf_overlay.specs.declared.part.Piece.{Piece}
use Rattle.wtf_values.specs.declared.region.RegionValue.{RegionValue}
use Rattle.wtf_values.specs.declared.region.Spill.{Spill}
use Rattle.wtf_values.specs.Bases.{base_below}
use Rattle.wtf_values.specs.Regions.{or_empty, pushed, clipped, zero_case, zeroed_in, entry_at, piece_case, with_piece, with_pieces}
use Rattle.wtf_meta.specs.Bytes.{PartBytes, EntryBytes, PiecesBytes, BaseBytes, RegionBytes}

-- the places of a slice's byte do not depend on the slice's length
places_front : (n m i : ℕ) (e : Extents) → map (place_in i) (pointers_to n e) ≡ map (place_in i) (pointers_to m e)
places_front n m i (One a) = refl
places_front n m i (Two a b) = refl
places_front n m i (Three a b c) = refl

origin_front : (n m : ℕ) (p : Part) (len : HasLength m p) (some : 0 < n) (le : n ≤ m) (i : ℕ) → part_origin (part_front n m p len some le) i ≡ part_origin p i
origin_front n m Zero len some le i = refl
origin_front n m (Held s) len some le i = places_front n s.len i s.extents

module _ (P : List Place → Bool) (Q : Slice → Bool) where
  -- a region that is missing, or empty, has no byte
  pub RegionBytes-empty : RegionBytes P Q (or_empty None)
  RegionBytes-empty = record { base = tt; entries = All-nil (EntryBytes P) }

  -- an entry that is laid over a region
  pub pushed_bytes : (now : Option RegionValue) (e : Entry) → RegionBytes P Q (or_empty now) → EntryBytes P e → RegionBytes P Q (pushed now e)
  pushed_bytes now e h here = record { base = h.base; entries = All-push (EntryBytes P) (or_empty now).list e h.entries here }

  -- the first bytes of an entry
  front_bytes : (n : ℕ) (e : Entry) (some : 0 < n) (le : n ≤ e.len) → EntryBytes P e → EntryBytes P (front n e some le)
  front_bytes n e some le h = λ i below. ap P (origin_front n e.len e.part e.held some le i) ∙ h i (omega arith)

  case_bytes : (end : ℕ) (e : Entry) (c : (e.off < end) ⊎ (end ≤ e.off)) → EntryBytes P e → All (EntryBytes P) (clip_case end e c)
  case_bytes end e (inl below) h =
      let f = front (below_end end e) e (below_end_some end e below) (below_end_within end e) in
      All-cons (EntryBytes P) f [] (front_bytes (below_end end e) e (below_end_some end e below) (below_end_within end e) h) (All-nil (EntryBytes P))
  case_bytes end e (inr past) h = All-nil (EntryBytes P)

  clip_bytes : (end : ℕ) (es : List Entry) → All (EntryBytes P) es → All (EntryBytes P) (clip_list end es)
  clip_bytes end [] h = All-nil (EntryBytes P)
  clip_bytes end (e ∷ es) h =
      All-append (EntryBytes P) (clip_entry end e) (clip_list end es)
      (case_bytes end e (cases_lt e.off end) (All-head (EntryBytes P) e es h)) (clip_bytes end es (All-tail (EntryBytes P) e es h))

  -- a base that is cut keeps its slice, or is dropped
  pub cut_bytes : (end : ℕ) (base : Option Spill) → BaseBytes P Q base → BaseBytes P Q (base_below end base)
  cut_bytes end None h = tt
  cut_bytes end (Some s) h =
      let n = min s.visible end in
      elim (cases_lt 0 n) [
        | inl some ↦ subst (BaseBytes P Q) (sym (cond-true (nat_lt 0 n) (Some (record s { visible = n })) None (lt-ltb 0 n some))) h
        | inr none ↦ subst (BaseBytes P Q) (sym (cond-false (nat_lt 0 n) (Some (record s { visible = n })) None (le-ltb 0 n none))) tt
      ]

  -- a region that is cut
  pub clipped_bytes : (end : ℕ) (now : Option RegionValue) → RegionBytes P Q (or_empty now) → RegionBytes P Q (clipped end now)
  clipped_bytes end now h = record { base = cut_bytes end (or_empty now).base h.base; entries = clip_bytes end (or_empty now).list h.entries }

  piece_bytes : (v : RegionValue) (p : Piece) (c : (v.end + p.len < 2 ^ 32) ⊎ (2 ^ 32 ≤ v.end + p.len)) → RegionBytes P Q v → PartBytes P p.len p.part
      → RegionBytes P Q (piece_case v p c)
  piece_bytes v p (inl fits) h here = pushed_bytes (Some v) (entry_at v.end p fits) h here
  piece_bytes v p (inr large) h here = h

  -- a region with pieces at its end
  pub with_pieces_bytes : (v : RegionValue) (ps : List Piece) → RegionBytes P Q v → PiecesBytes P ps → RegionBytes P Q (with_pieces v ps)
  with_pieces_bytes v [] h here = h
  with_pieces_bytes v (p ∷ ps) h here =
      with_pieces_bytes (with_piece v p) ps
      (piece_bytes v p (cases_lt (v.end + p.len) (2 ^ 32)) h (All-head (λ (p : Piece). PartBytes P p.len p.part) p ps here))
      (All-tail (λ (p : Piece). PartBytes P p.len p.part) p ps here)

  module _ (hole : P [] ≡ true) where
    zero_bytes : (v : RegionValue) (from upto : ℕ) (c : (from < upto) ⊎ (upto ≤ from)) (s : (upto < 2 ^ 32) ⊎ (2 ^ 32 ≤ upto)) → RegionBytes P Q v
        → RegionBytes P Q (zero_case v from upto c s)
    zero_bytes v from upto (inl some) (inl small) h = pushed_bytes (Some v) _ h (λ i below. hole)
    zero_bytes v from upto (inl some) (inr large) h = h
    zero_bytes v from upto (inr none) s h = h

    -- zeros within a region
    pub zeroed_bytes : (from upto : ℕ) (v : RegionValue) → RegionBytes P Q v → RegionBytes P Q (zeroed_in from upto v)
    zeroed_bytes from upto v h = zero_bytes v from (min upto v.end) (cases_lt from (min upto v.end)) (cases_lt (min upto v.end) (2 ^ 32)) h
