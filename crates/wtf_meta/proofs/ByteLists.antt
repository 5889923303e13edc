-- Lists of bytes that are cut, padded or zeroed: how long they are, and what stands at each place.
use Rattle.std.proofs.Common.{◌≡◌, ℕ, ◌+◌, ◌-◌, ◌<◌, ◌≤◌, ◌++◌, min, List, length, get_or, take, drop, replicate, ap, sym, ◌∙◌, arith, inl, inr, length-append}
use Rattle.std.proofs.Common.{length-drop}
use Rattle.std.proofs.lemmas.Bool.{cases_lt}
use Rattle.std.proofs.lemmas.List.{get_or_past, get_or_append_left, get_or-append_right, get_or-take, get_or-drop, get_or-replicate, length-take}
use Rattle.std.proofs.lemmas.List.{length-replicate}
use Rattle.wtf_model.specs.ByteCalls.{resized, zeroed}

-- a list that was cut or padded to n has n bytes
pub length-resized : (old : List ℕ) (n : ℕ) → length (resized old n) ≡ n
length-resized old n = simp (length-append, length-take, length-replicate) (omega arith)

-- below its length a list that was cut or padded has what it had, and zeros behind its old end
pub resized_at : (old : List ℕ) (n x : ℕ) → x < n → get_or (resized old n) x 0 ≡ get_or old x 0
resized_at old n x h = elim (cases_lt x (length old)) [
  | inl near ↦ get_or_append_left (take n old) (replicate (n - length old) 0) 0 x (rw length-take (omega arith)) ∙ get_or-take n old x 0 h
  | inr far ↦ get_or-append_right (take n old) (replicate (n - length old) 0) (length old) x 0 (length-take n old ∙ omega arith) far
      ∙ get_or-replicate (n - length old) (x - length old) 0 0 (omega arith) ∙ sym (get_or_past old x 0 far)
]

-- zeros in place of bytes leave the length
pub length-zeroed : (old : List ℕ) (off n : ℕ) → length (zeroed old off n) ≡ length old
length-zeroed old off n = simp (length-append, length-take, length-replicate, length-drop) (omega arith)

-- the bytes before the range and the zeros in it
cleared : List ℕ → ℕ → ℕ → List ℕ
cleared old off n = take off old ++ replicate (min n (length old - off)) 0

length-cleared : (old : List ℕ) (off n : ℕ) → length (cleared old off n) ≡ min off (length old) + min n (length old - off)
unfolding cleared
length-cleared old off n = simp (length-append, length-take, length-replicate) (omega arith)

-- before the range a list with zeros in it has what it had
pub zeroed_before : (old : List ℕ) (off n x : ℕ) → x < off → get_or (zeroed old off n) x 0 ≡ get_or old x 0
unfolding cleared
zeroed_before old off n x h = elim (cases_lt x (length old)) [
  | inl near ↦
      get_or_append_left (cleared old off n) (drop (off + n) old) 0 x (omega (arith, length-cleared old off n))
      ∙ get_or_append_left (take off old) (replicate (min n (length old - off)) 0) 0 x (omega (arith, length-take off old)) ∙ get_or-take off old x 0 h
  | inr far ↦ get_or_past (zeroed old off n) x 0 (omega (arith, length-zeroed old off n)) ∙ sym (get_or_past old x 0 far)
]

-- in it zeros
pub zeroed_within : (old : List ℕ) (off n x : ℕ) → off ≤ x → x < off + n → get_or (zeroed old off n) x 0 ≡ 0
unfolding cleared
zeroed_within old off n x from upto = elim (cases_lt x (length old)) [
  | inl near ↦
      get_or_append_left (cleared old off n) (drop (off + n) old) 0 x (omega (arith, length-cleared old off n))
      ∙ get_or-append_right (take off old) (replicate (min n (length old - off)) 0) off x 0 (length-take off old ∙ omega arith) from
      ∙ get_or-replicate (min n (length old - off)) (x - off) 0 0 (omega arith)
  | inr far ↦ get_or_past (zeroed old off n) x 0 (omega (arith, length-zeroed old off n))
]

-- and behind it what it had
pub zeroed_after : (old : List ℕ) (off n x : ℕ) → off + n ≤ x → get_or (zeroed old off n) x 0 ≡ get_or old x 0
unfolding cleared
zeroed_after old off n x from = elim (cases_lt x (length old)) [
  | inl near ↦
      get_or-append_right (cleared old off n) (drop (off + n) old) (off + n) x 0 (length-cleared old off n ∙ omega arith) from
      ∙ get_or-drop (off + n) old (x - (off + n)) 0 ∙ ap (λ k. get_or old k 0) (let e : off + n + (x - (off + n)) ≡ x = omega arith in e)
  | inr far ↦ get_or_past (zeroed old off n) x 0 (omega (arith, length-zeroed old off n)) ∙ sym (get_or_past old x 0 far)
]
