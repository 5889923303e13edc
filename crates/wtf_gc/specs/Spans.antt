-- Sets of places of one backing file, as spans.
use Rattle.std.specs.Prelude.{ℕ, zero, suc, ◌+◌, ◌-◌, ◌<◌, ◌≤◌, Bool, cond, nat_le, nat_lt, not, ◌&&◌, min, max, List, [], ◌∷◌}
use Rattle.std.specs.List.{list_any}
use Rattle.wtf_gc.specs.declared.extent.Span.{Span}

abbrev pub span : ℕ → ℕ → Span
span a b = record { from = a; to = b }

abbrev pub span_has : ℕ → Span → Bool
span_has x s = nat_le s.from x && nat_lt x s.to

-- some span has the place
abbrev pub spans_cover : List Span → ℕ → Bool
spans_cover ss x = list_any (span_has x) ss

-- the place is below the mark, and no span has it
abbrev pub is_gap : ℕ → List Span → ℕ → Bool
is_gap mark ss x = nat_lt x mark && not (spans_cover ss x)

-- what lies from `at` up to the mark between spans that are sorted by where they begin
abbrev pub gaps_from : ℕ → ℕ → List Span → List Span
gaps_from at mark [] = cond (nat_lt at mark) (span at mark ∷ []) []
gaps_from at mark (s ∷ ss) = cond (nat_lt at (min s.from mark)) (span at (min s.from mark) ∷ gaps_from (max at s.to) mark ss) (gaps_from (max at s.to) mark ss)

-- the spans ascend from lo to hi, have bytes, and share none
abbrev pub Apart : ℕ → ℕ → List Span → Type 0
Apart lo hi [] = Unit {0}
Apart lo hi (s ∷ ss) = (lo ≤ s.from) × (s.from < s.to) × (s.to ≤ hi) × Apart s.to hi ss

-- the spans begin in ascending order, from lo on, and none ends before it begins
abbrev pub Ascends : ℕ → List Span → Type 0
Ascends lo [] = Unit {0}
Ascends lo (s ∷ ss) = (lo ≤ s.from) × (s.from ≤ s.to) × Ascends s.from ss

abbrev pub sum_of : List Span → ℕ
sum_of [] = 0
sum_of (s ∷ ss) = (s.to - s.from) + sum_of ss

abbrev pub one_if : Bool → ℕ
one_if b = cond b 1 0

-- how many of the n places from a on are in the set
abbrev pub count_from : (ℕ → Bool) → ℕ → ℕ → ℕ
count_from p a zero = 0
count_from p a (suc n) = one_if (p a) + count_from p (suc a) n

-- the number of places of a set below n
abbrev pub size_of : ℕ → (ℕ → Bool) → ℕ
size_of n p = count_from p 0 n
