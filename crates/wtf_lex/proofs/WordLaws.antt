-- The first word of a line.
use Rattle.std.proofs.lemmas.List.Splits.{length-slice_split}
use Rattle.std.proofs.lemmas.List.Sums.{prefix_len_is}
use Rattle.std.proofs.Common.{◌≡◌, ◌==◌, ◌<◌, ◌≤◌, ◌+◌, ℕ, length, count_by, Bool, true, false, not, nat_lt, cond, List, [], ◌∷◌, take, drop, Option, Some, None, unwrap_or, refl, ap, ◌∙◌, arith}
use Rattle.std.specs.List.{position, position_or_len, onto_first}
use Rattle.std.proofs.lemmas.Bool.Decides.{nat_tests}
use Rattle.std.proofs.lemmas.Grind.{common_steps}
use Rattle.memchr.specs.Find.{IsFirstByte, is_byte}
use Rattle.wtf_lex.specs.Words.{words_of, is_space, words_behind}

-- one byte more in front
step : (t : Bool) (b : ℕ) (bs : List ℕ) (n : ℕ) → words_of bs ≡ take n bs ∷ words_behind (drop n bs) → cond t ([] ∷ words_of bs) (onto_first b (words_of bs)) ≡ take (cond (not t) (1 + n) 0) (b ∷ bs) ∷ words_behind (drop (cond (not t) (1 + n) 0) (b ∷ bs))
step true b bs n e = refl
step false b bs n e = ap (onto_first b) e ∙ grind (arith, common_steps)

-- the first word is the bytes before the first space
pub words_of-first : (text : List ℕ) → words_of text ≡ take (position_or_len is_space text) text ∷ words_behind (drop (position_or_len is_space text) text)
words_of-first [] = refl
words_of-first (b ∷ bs) = step (is_space b) b bs (position_or_len is_space bs) (words_of-first bs)

-- a first place, or else the end
pub first-or-end : (at end : ℕ) → at ≤ end → unwrap_or (cond (nat_lt at end) (Some at) None) end ≡ at
first-or-end at end h = grind (arith, nat_tests)

-- how many words stand behind a byte
pub length-words_behind : (behind : List ℕ) (n : ℕ) → 0 < length behind → n ≡ count_by is_space (drop 1 behind) → n + 1 ≡ length (words_behind behind)
length-words_behind [] n h e = absurd (omega arith)
length-words_behind (b ∷ bs) n h e = let k = length-slice_split is_space bs in omega arith

pub some_behind : (bs : List ℕ) (b : Bool) → b ≡ (length bs == 0) → b ≡ false → 0 < length bs
some_behind [] b e f = cc
some_behind (x ∷ xs) b e f = omega arith

fails : (b : Bool) → ¬ (b ≡ true) → not b ≡ true
fails true h = absurd (h refl)
fails false h = refl

at_place : (first end at : ℕ) → first ≡ at → at < end → Some at ≡ cond (nat_lt first end) (Some first) None
at_place first end at is within = grind (arith, nat_tests)

at_no_place : (first end : ℕ) → first ≡ end → None ≡ cond (nat_lt first end) (Some first) None
at_no_place first end is = grind (arith, nat_tests)

-- the place that a search for a space gives
pub first-is_position : (text : List ℕ) (r : Option ℕ) → IsFirstByte (is_byte 32) text r → r ≡ position is_space text
first-is_position text None h = at_no_place (position_or_len is_space text) (length text)
    (prefix_len_is (λ b. not (is_space b)) text (length text) 0 (omega arith) (λ k l. fails _ (h k (omega arith) l)) (λ l. absurd (omega arith)))
first-is_position text (Some at) h =
    at_place (position_or_len is_space text) (length text) at
    (prefix_len_is (λ b. not (is_space b)) text at 0 (omega (arith, h.0.high)) (λ k l. fails _ (h.0.before k (omega arith) l)) (λ l. ap not h.1)) h.0.high
