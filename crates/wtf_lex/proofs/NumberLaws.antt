-- Numbers that digits spell.
use Rattle.std.proofs.Common.{◌≡◌, ℕ, ◌+◌, ◌*◌, ◌-◌, ◌<◌, ◌≤◌, Bool, true, false, ◌&&◌, nat_le, cond, List, [], ◌∷◌, length, get_or, drop, Some, None, refl, arith, add-one, drop-cons}
use Rattle.std.proofs.lemmas.Bool.Decides.{nat_tests}
use Rattle.wtf_lex.specs.Numbers.{value_from, is_numeral, number_within}

-- more digits never make the number less
pub value_from-grows : (v : ℕ) (digits : List ℕ) → v ≤ value_from v digits
value_from-grows v [] = omega arith
value_from-grows v (d ∷ ds) = omega (arith, value_from-grows (v * 10 + (d - 48)) ds)

-- one digit on
pub value_from-at : (v : ℕ) (word : List ℕ) (i : ℕ) → i < length word → value_from v (drop i word) ≡ value_from (v * 10 + (get_or word i 0 - 48)) (drop (i + 1) word)
value_from-at v word i h = rw (add-one, drop-cons word i 0) refl

past : (numeral : Bool) (most value : ℕ) → most < value → cond (numeral && nat_le value most) (Some value) None ≡ None
past true most value h = grind (arith, nat_tests)
past false most value h = refl

-- a number that is too great
pub number_within-past : (most : ℕ) (word : List ℕ) → most < value_from 0 word → number_within most word ≡ None
number_within-past most word h = past (is_numeral word) most (value_from 0 word) h
