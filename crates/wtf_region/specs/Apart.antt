-- Which bytes lie apart from ranges that were punched, as tests.
use Rattle.std.specs.Prelude.{ℕ, ◌+◌, Bool, ◌&&◌, not, nat_eq, nat_le, nat_lt, List, [], ◌∷◌}
use Rattle.std.specs.List.{list_all}
use Rattle.wtf_dev.specs.Store.{Range}
use Rattle.wtf_overlay.specs.Origin.{Place}

-- a place lies in a range of a server
abbrev pub lies_in : Place → ℕ × Range → Bool
lies_in p r = nat_eq p.server r.0 && (nat_eq p.file r.1.file && (nat_le r.1.at p.at && nat_lt p.at (r.1.at + r.1.len)))

-- it lies in none of these
abbrev pub lies_apart : List (ℕ × Range) → Place → Bool
lies_apart ranges p = list_all (λ r. not (lies_in p r)) ranges

-- the places of a byte all lie in none of them; a hole has none
abbrev pub are_apart : List (ℕ × Range) → List Place → Bool
are_apart ranges places = list_all (lies_apart ranges) places

-- ranges that were punched before, and these
abbrev pub with_ranges : List (ℕ × Range) → List (ℕ × Range) → List (ℕ × Range)
with_ranges before [] = before
with_ranges before (r ∷ rs) = with_ranges (r ∷ before) rs
