-- A function that has other values in a range.
use Rattle.std.proofs.Common.{◌≡◌, ℕ, ◌+◌, ◌-◌, ◌<◌, ◌≤◌, max, nat_lt, List, [], ap, sym, ◌∙◌, arith, inl, inr}
use Rattle.std.proofs.lemmas.Bool.{lt-ltb, le-ltb, le-leb, lt-leb, cond-true, cond-false, and_from, and_left, and_right, cases_lt}
use Rattle.wtf_overlay.specs.Origin.{Place}
use Rattle.wtf_meta.specs.Files.{laid, joined, cut_at, grown}

-- before a range
pub laid_before : {A : Type 0} (off n : ℕ) (f g : ℕ → A) (x : ℕ) → x < off → laid off n f g x ≡ g x
laid_before off n f g x h = cond-false _ _ _ (and_left _ _ (lt-leb off x h))

-- behind it
pub laid_after : {A : Type 0} (off n : ℕ) (f g : ℕ → A) (x : ℕ) → off + n ≤ x → laid off n f g x ≡ g x
laid_after off n f g x h = cond-false _ _ _ (and_right _ _ (le-ltb x (off + n) h))

-- and in it
pub laid_within : {A : Type 0} (off n : ℕ) (f g : ℕ → A) (x : ℕ) → off ≤ x → x < off + n → laid off n f g x ≡ f (x - off)
laid_within off n f g x h k = cond-true _ _ _ (and_from _ _ (le-leb off x h) (lt-ltb x (off + n) k))

-- what has the values of the one in the range, and those of the other outside of it
pub laid_is : {A : Type 0} (off n : ℕ) (f g : ℕ → A) (x : ℕ) (a : A) → (x < off → a ≡ g x) → (off + n ≤ x → a ≡ g x)
    → (off ≤ x → x < off + n → a ≡ f (x - off)) → a ≡ laid off n f g x
laid_is off n f g x a before past within = elim (cases_lt x off) [
  | inl l ↦ before l ∙ sym (laid_before off n f g x l)
  | inr from ↦ elim (cases_lt x (off + n)) [
    | inl to ↦ within from to ∙ sym (laid_within off n f g x from to)
    | inr p ↦ past p ∙ sym (laid_after off n f g x p)
  ]
]

-- the first n of two lists of values
pub joined_first : {A : Type 0} (n : ℕ) (f g : ℕ → A) (i : ℕ) → i < n → joined n f g i ≡ f i
joined_first n f g i h = cond-true _ _ _ (lt-ltb i n h)

-- and those behind them
pub joined_then : {A : Type 0} (n : ℕ) (f g : ℕ → A) (i : ℕ) → n ≤ i → joined n f g i ≡ g (i - n)
joined_then n f g i h = cond-false _ _ _ (le-ltb i n h)

-- two ranges of which the second follows the first
pub laid-laid : {A : Type 0} (off n m : ℕ) (f g h : ℕ → A) (x : ℕ) → laid (off + n) m g (laid off n f h) x ≡ laid off (n + m) (joined n f g) h x
laid-laid off n m f g h x = laid_is off (n + m) (joined n f g) h x _
    (λ l. laid_before (off + n) m g (laid off n f h) x (omega arith) ∙ laid_before off n f h x l)
    (λ p. laid_after (off + n) m g (laid off n f h) x (omega arith) ∙ laid_after off n f h x (omega arith))
    (λ from to. elim (cases_lt x (off + n)) [
      | inl l ↦ laid_before (off + n) m g (laid off n f h) x l ∙ laid_within off n f h x from l ∙ sym (joined_first n f g (x - off) (omega arith))
      | inr p ↦ laid_within (off + n) m g (laid off n f h) x p (omega arith) ∙ ap g (let e : x - (off + n) ≡ x - off - n = omega arith in e)
          ∙ sym (joined_then n f g (x - off) (omega arith))
    ])

-- what is laid may be taken over by equal values, and so may what it is laid over
pub laid_same : {A : Type 0} (off n : ℕ) (f g h k : ℕ → A) (x : ℕ) → ((i : ℕ) → i < n → f i ≡ g i) → h x ≡ k x → laid off n f h x ≡ laid off n g k x
laid_same off n f g h k x above below = laid_is off n g k x _
    (λ l. laid_before off n f h x l ∙ below) (λ p. laid_after off n f h x p ∙ below)
    (λ from to. laid_within off n f h x from to ∙ above (x - off) (omega arith))

-- what a cut leaves below it
pub cut_below : (n : ℕ) (f : ℕ → List Place) (x : ℕ) → x < n → cut_at n f x ≡ f x
cut_below n f x h = cond-true (nat_lt x n) (f x) [] (lt-ltb x n h)

-- and holes from there on
pub cut_past : (n : ℕ) (f : ℕ → List Place) (x : ℕ) → n ≤ x → cut_at n f x ≡ []
cut_past n f x h = cond-false (nat_lt x n) (f x) [] (le-ltb x n h)

-- a length, once bytes are there
pub grown_some : (len off n : ℕ) → 0 < n → grown len off n ≡ max len (off + n)
grown_some len off n some = cond-true (nat_lt 0 n) (max len (off + n)) len (lt-ltb 0 n some)

-- no byte changes nothing
pub grown_none : (len off n : ℕ) → n ≡ 0 → grown len off n ≡ len
grown_none len off n none = cond-false (nat_lt 0 n) (max len (off + n)) len (le-ltb 0 n (omega arith))
