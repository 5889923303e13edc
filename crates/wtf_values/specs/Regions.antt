-- Regions, and what changes make of them.
use Rattle.std.specs.Prelude.{ℕ, ◌+◌, ◌-◌, ◌<◌, ◌≤◌, ◌^◌, ◌⊎◌, ◌++◌, min, max, nat_le, Bool, if◌then◌else◌, List, [], ◌∷◌, Option, None, Some}
use Rattle.std.proofs.Common.{arith, inl, inr}
use Rattle.std.proofs.lemmas.Bool.{cases_lt}
use Rattle.wtf_overlay.specs.declared.part.Entry.{Entry}
use Rattle.wtf_overlay.specs.declared.part.Piece.{Piece}
use Rattle.wtf_overlay.specs.declared.part.Part.TheVariants.{Zero}
use Rattle.wtf_overlay.specs.Origin.{pieces_len}
use Rattle.wtf_overlay.specs.Clips.{clip_list}
use Rattle.wtf_overlay.proofs.Clipping.{Within-nil, Within-push, Within-clip}
use Rattle.wtf_values.specs.declared.region.RegionValue.{RegionValue}
use Rattle.wtf_values.specs.Bases.{base_below, IsBelow-none, IsBelow-more, IsBelow-cut}

-- a region with no byte
abbrev pub emptied : RegionValue
emptied = record { end = 0; base = None; list = []; within = Within-nil 0; below = IsBelow-none 0 }

-- a missing region has no byte
abbrev pub or_empty : Option RegionValue → RegionValue
or_empty None = emptied
or_empty (Some v) = v

pub greater_left : (n m : ℕ) → n ≤ max n m
greater_left n m = omega arith

-- a region with an entry laid over it, to whose end it reaches at least
abbrev pub pushed : Option RegionValue → Entry → RegionValue
pushed now e = let v = or_empty now in record {
  end = max v.end (e.off + e.len);
  base = v.base;
  list = v.list ++ e ∷ [];
  within = Within-push v.end v.list e v.within;
  below = IsBelow-more v.end (max v.end (e.off + e.len)) v.base (greater_left v.end (e.off + e.len)) v.below;
}

-- a region with entries laid over it, one after another
abbrev pub pushed_all : RegionValue → List Entry → RegionValue
pushed_all v [] = v
pushed_all v (e ∷ es) = pushed_all (pushed (Some v) e) es

-- the end of a region that reaches to each of the entries' ends at least
abbrev pub end_over : ℕ → List Entry → ℕ
end_over end [] = end
end_over end (e ∷ es) = end_over (max end (e.off + e.len)) es

-- a region with all bytes at an end and above taken off its entries and its base; that is its end then
abbrev pub clipped : ℕ → Option RegionValue → RegionValue
clipped end now = let v = or_empty now in record {
  end = end;
  base = base_below end v.base;
  list = clip_list end v.list;
  within = Within-clip end v.list;
  below = IsBelow-cut end v.base;
}

pub zero_fits : (from upto : ℕ) → from < upto → upto < 2 ^ 32 → from + (upto - from) < 2 ^ 32
zero_fits from upto some small = omega arith

pub zero_some : (from upto : ℕ) → from < upto → 0 < upto - from
zero_some from upto some = omega arith

-- an entry of zeros from one offset up to another
abbrev pub zero_entry : (from upto : ℕ) → from < upto → upto < 2 ^ 32 → Entry
zero_entry from upto some small = record {
  off = from;
  len = upto - from;
  part = Zero;
  positive = zero_some from upto some;
  fits = zero_fits from upto some small;
  held = tt;
}

abbrev pub zero_case : (v : RegionValue) (from upto : ℕ) → (from < upto) ⊎ (upto ≤ from) → (upto < 2 ^ 32) ⊎ (2 ^ 32 ≤ upto) → RegionValue
zero_case v from upto (inl some) (inl small) = pushed (Some v) (zero_entry from upto some small)
zero_case v from upto (inl some) (inr large) = v
zero_case v from upto (inr none) small = v

-- a region with zeros on the part of a range below its end; where that is no byte it stays
abbrev pub zeroed_in : ℕ → ℕ → RegionValue → RegionValue
zeroed_in from upto v = zero_case v from (min upto v.end) (cases_lt from (min upto v.end)) (cases_lt (min upto v.end) (2 ^ 32))

-- a missing region stays missing
abbrev pub zeroed : ℕ → ℕ → Option RegionValue → Option RegionValue
zeroed from upto None = None
zeroed from upto (Some v) = Some (zeroed_in from upto v)

-- a piece as the entry at an offset
abbrev pub entry_at : (off : ℕ) (p : Piece) → off + p.len < 2 ^ 32 → Entry
entry_at off p fits = record { off = off; len = p.len; part = p.part; positive = p.positive; fits = fits; held = p.held }

abbrev pub piece_case : (v : RegionValue) (p : Piece) → (v.end + p.len < 2 ^ 32) ⊎ (2 ^ 32 ≤ v.end + p.len) → RegionValue
piece_case v p (inl fits) = pushed (Some v) (entry_at v.end p fits)
piece_case v p (inr large) = v

-- a region with a piece added at its end; where an entry cannot end there it stays
abbrev pub with_piece : RegionValue → Piece → RegionValue
with_piece v p = piece_case v p (cases_lt (v.end + p.len) (2 ^ 32))

-- a region with pieces added at its end, one after another
abbrev pub with_pieces : RegionValue → List Piece → RegionValue
with_pieces v [] = v
with_pieces v (p ∷ ps) = with_pieces (with_piece v p) ps

-- whether pieces fit at the end of a region of b bytes
abbrev pub fits_at_end : Option RegionValue → List Piece → ℕ → Bool
fits_at_end now ps b = nat_le ((or_empty now).end + pieces_len ps) b

-- a region with pieces added where they fit
abbrev pub added : Option RegionValue → List Piece → ℕ → Option RegionValue
added now ps b = if fits_at_end now ps b then Some (with_pieces (or_empty now) ps) else now
