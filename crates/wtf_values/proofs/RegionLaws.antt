-- Laws of regions and of what changes make of them.
use Rattle.std.proofs.Common.{◌≡◌, ℕ, ◌+◌, ◌-◌, ◌<◌, ◌≤◌, ◌^◌, ◌⊎◌, ◌++◌, min, max, nat_lt, true, false, List, [], ◌∷◌, Option, None, Some, refl, ap, sym, ◌∙◌, arith, inl, inr}
use mathlib.Core.HLevel.{is_prop→PathP}
use Rattle.std.proofs.Props.{props}
use Rattle.std.specs.Coded.{le_prop}
use Rattle.std.proofs.lemmas.Bool.{cases_lt, cond-true, lt-ltb, le-leb, lt-leb}
use Rattle.wtf_overlay.specs.declared.part.Entry.{Entry}
use Rattle.wtf_overlay.specs.declared.part.Piece.{Piece}
use Rattle.wtf_overlay.specs.declared.part.Part.TheVariants.{Zero}
use Rattle.wtf_overlay.specs.Origin.{pieces_len}
use Rattle.wtf_overlay.specs.Clips.{Within}
use Rattle.wtf_overlay.proofs.Clipping.{entry_eq}
use Rattle.wtf_values.specs.declared.region.RegionValue.{RegionValue}
use Rattle.wtf_values.specs.declared.region.Spill.{Spill}
use Rattle.wtf_values.specs.Bases.{IsBelow, IsBelow_prop, IsBelow-more, seen_upto, base_below}
use Rattle.wtf_values.specs.Regions.{or_empty, pushed, clipped, zero_entry, zero_case, zeroed_in, entry_at, piece_case, with_piece, with_pieces, fits_at_end}

-- that no entry passes an end is a proposition
pub Within_prop : (end : ℕ) (es : List Entry) → IsProp (Within end es)
Within_prop end es = hlevel props

-- what is seen of a base up to a number above 0, and up to none
pub seen_some : (s : Spill) (n : ℕ) → 0 < n → seen_upto s n ≡ Some (record s { visible = n })
seen_some s n some = cond-true (nat_lt 0 n) (Some (record s { visible = n })) None (lt-ltb 0 n some)

-- nothing is left of a base below 0
pub base_below-zero : (base : Option Spill) → base_below 0 base ≡ None
base_below-zero None = refl
base_below-zero (Some s) = ap (seen_upto s) (let e : min s.visible 0 ≡ 0 = omega arith in e)

-- and all of it below an end that it does not pass
pub base_below-whole : (end : ℕ) (base : Option Spill) → IsBelow end base → base_below end base ≡ base
base_below-whole end None below = refl
base_below-whole end (Some s) below =
    let e : min s.visible end ≡ s.visible = omega (arith, below.1) in
    ap (seen_upto s) e ∙ seen_some s s.visible below.0

-- regions are equal where their ends, bases and entries are
pub region_eq : (v w : RegionValue) → v.end ≡ w.end → v.base ≡ w.base → v.list ≡ w.list → v ≡ w
region_eq v w e b l = λ i. record {
  end = e i;
  base = b i;
  list = l i;
  within = is_prop→PathP (λ j. Within (e j) (l j)) (λ j. Within_prop (e j) (l j)) v.within w.within i;
  below = is_prop→PathP (λ j. IsBelow (e j) (b j)) (λ j. IsBelow_prop (e j) (b j)) v.below w.below i;
}

-- pieces fit where they end at b at most
pub fits_when : (now : Option RegionValue) (ps : List Piece) (b : ℕ) → (or_empty now).end + pieces_len ps ≤ b → fits_at_end now ps b ≡ true
fits_when now ps b le = le-leb ((or_empty now).end + pieces_len ps) b le

piece_fits : (v : RegionValue) (p : Piece) (fits : v.end + p.len < 2 ^ 32) (c : (v.end + p.len < 2 ^ 32) ⊎ (2 ^ 32 ≤ v.end + p.len)) → piece_case v p c ≡ pushed (Some v) (entry_at v.end p fits)
piece_fits v p fits (inl h) = ap (λ (k : v.end + p.len < 2 ^ 32). pushed (Some v) (entry_at v.end p k)) (le_prop h fits)
piece_fits v p fits (inr large) = absurd (omega arith)

-- a piece that fits is an entry at the end
pub with_piece-fits : (v : RegionValue) (p : Piece) (fits : v.end + p.len < 2 ^ 32) → with_piece v p ≡ pushed (Some v) (entry_at v.end p fits)
with_piece-fits v p fits = piece_fits v p fits (cases_lt (v.end + p.len) (2 ^ 32))

-- the same of any entry that is the piece there
pub with_piece-entry : (v : RegionValue) (p : Piece) (e : Entry) → v.end + p.len < 2 ^ 32 → e.off ≡ v.end → e.len ≡ p.len → e.part ≡ p.part → pushed (Some v) e ≡ with_piece v p
with_piece-entry v p e fits off len part = ap (pushed (Some v)) (entry_eq e (entry_at v.end p fits) off len part) ∙ sym (with_piece-fits v p fits)

pub with_piece-end : (v : RegionValue) (p : Piece) → v.end + p.len < 2 ^ 32 → (with_piece v p).end ≡ v.end + p.len
with_piece-end v p fits = ap (λ (w : RegionValue). w.end) (with_piece-fits v p fits) ∙ (let e : max v.end (v.end + p.len) ≡ v.end + p.len = omega arith in e)

-- pieces one after another
pub with_pieces-append : (v : RegionValue) (ps qs : List Piece) → with_pieces v (ps ++ qs) ≡ with_pieces (with_pieces v ps) qs
with_pieces-append v [] qs = refl
with_pieces-append v (p ∷ ps) qs = with_pieces-append (with_piece v p) ps qs

pub with_pieces-push : (v : RegionValue) (ps : List Piece) (p : Piece) → with_pieces v (ps ++ p ∷ []) ≡ with_piece (with_pieces v ps) p
with_pieces-push v ps p = with_pieces-append v ps (p ∷ [])

-- pieces that fit raise the end by their length
pub with_pieces-end : (v : RegionValue) (ps : List Piece) → v.end + pieces_len ps < 2 ^ 32 → (with_pieces v ps).end ≡ v.end + pieces_len ps
with_pieces-end v [] fits = omega arith
with_pieces-end v (p ∷ ps) fits =
    let here : (with_piece v p).end ≡ v.end + p.len = with_piece-end v p (omega arith) in
    let rest : (with_pieces (with_piece v p) ps).end ≡ (with_piece v p).end + pieces_len ps = with_pieces-end (with_piece v p) ps (omega (arith, here)) in
    rest ∙ omega (arith, here)

zero_some_case : (v : RegionValue) (from upto : ℕ) (some : from < upto) (small : upto < 2 ^ 32) (c : (from < upto) ⊎ (upto ≤ from)) (d : (upto < 2 ^ 32) ⊎ (2 ^ 32 ≤ upto))
    → zero_case v from upto c d ≡ pushed (Some v) (zero_entry from upto some small)
zero_some_case v from upto some small (inl h) (inl k) =
    λ i. pushed (Some v) (zero_entry from upto (le_prop h some i) (le_prop k small i))
zero_some_case v from upto some small (inl h) (inr large) = absurd (omega arith)
zero_some_case v from upto some small (inr none) d = absurd (omega arith)

-- zeros on the part of a range below the end, which is a byte at least
pub zeroed_in-some : (from upto : ℕ) (v : RegionValue) (some : from < min upto v.end) (small : min upto v.end < 2 ^ 32) → zeroed_in from upto v ≡ pushed (Some v) (zero_entry from (min upto v.end) some small)
zeroed_in-some from upto v some small = zero_some_case v from (min upto v.end) some small (cases_lt from (min upto v.end)) (cases_lt (min upto v.end) (2 ^ 32))

-- the same of any entry that is these zeros
pub zeroed_in-entry : (from upto : ℕ) (v : RegionValue) (e : Entry) → from < min upto v.end → min upto v.end < 2 ^ 32 → e.off ≡ from → e.len ≡ min upto v.end - from → e.part ≡ Zero → pushed (Some v) e ≡ zeroed_in from upto v
zeroed_in-entry from upto v e some small off len part =
    ap (pushed (Some v)) (entry_eq e (zero_entry from (min upto v.end) some small) off len part) ∙ sym (zeroed_in-some from upto v some small)

zero_none_case : (v : RegionValue) (from upto : ℕ) → upto ≤ from → (c : (from < upto) ⊎ (upto ≤ from)) (d : (upto < 2 ^ 32) ⊎ (2 ^ 32 ≤ upto)) → zero_case v from upto c d ≡ v
zero_none_case v from upto le (inl some) d = absurd (omega arith)
zero_none_case v from upto le (inr none) d = refl

-- and where it is none, nothing
pub zeroed_in-none : (from upto : ℕ) (v : RegionValue) → min upto v.end ≤ from → zeroed_in from upto v ≡ v
zeroed_in-none from upto v none = zero_none_case v from (min upto v.end) none (cases_lt from (min upto v.end)) (cases_lt (min upto v.end) (2 ^ 32))

zero_case-end : (v : RegionValue) (from upto : ℕ) → upto ≤ v.end → (c : (from < upto) ⊎ (upto ≤ from)) (d : (upto < 2 ^ 32) ⊎ (2 ^ 32 ≤ upto)) → (zero_case v from upto c d).end ≡ v.end
zero_case-end v from upto le (inl some) (inl small) = omega arith
zero_case-end v from upto le (inl some) (inr large) = refl
zero_case-end v from upto le (inr none) d = refl

-- zeros leave the end
pub zeroed_in-end : (from upto : ℕ) (v : RegionValue) → (zeroed_in from upto v).end ≡ v.end
zeroed_in-end from upto v = zero_case-end v from (min upto v.end) (omega arith) (cases_lt from (min upto v.end)) (cases_lt (min upto v.end) (2 ^ 32))

-- a region whose end is not passed keeps its base under a cut, and one cut at 0 has none
pub clipped-base_whole : (end : ℕ) (v : RegionValue) → v.end ≤ end → (clipped end (Some v)).base ≡ v.base
clipped-base_whole end v le = base_below-whole end v.base (IsBelow-more v.end end v.base le v.below)

pub clipped-base_none : (v : RegionValue) → (clipped 0 (Some v)).base ≡ None
clipped-base_none v = base_below-zero v.base

-- pieces that end past b do not fit
pub unfit_when : (now : Option RegionValue) (ps : List Piece) (b : ℕ) → b < (or_empty now).end + pieces_len ps → fits_at_end now ps b ≡ false
unfit_when now ps b lt = lt-leb ((or_empty now).end + pieces_len ps) b lt
