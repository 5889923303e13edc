-- The elements of lists.
use Rattle.std.proofs.Common.{◌≡◌, ◌⊎◌, ℕ, zero, suc, ◌<◌, List, [], ◌∷◌, length, get_or, map, arith, inl, inr}
use Rattle.std.specs.List.{All, Contains}
use Rattle.std.proofs.lemmas.List.Elements.{All-nil, All-cons, All-head, All-tail}

-- an element of a list is its head or one of its tail
contains_at : {X : Type 0} (x : X) (xs : List X) (k : X) (n : ℕ) → n < length (x ∷ xs) → get_or (x ∷ xs) n k ≡ k → (x ≡ k) ⊎ Contains xs k
contains_at x xs k zero h e = inl e
contains_at x xs k (suc n) h e = inr (n, omega (arith, h), e)

pub contains_cons : {X : Type 0} (x : X) (xs : List X) (k : X) → Contains (x ∷ xs) k → (x ≡ k) ⊎ Contains xs k
contains_cons x xs k c = contains_at x xs k c.0 c.1 c.2

pub at_head : {X : Type 0} (x : X) (xs : List X) (k : X) → x ≡ k → Contains (x ∷ xs) k
at_head x xs k e = (0, omega arith, e)

pub in_tail : {X : Type 0} (x : X) (xs : List X) (k : X) → Contains xs k → Contains (x ∷ xs) k
in_tail x xs k c = (suc c.0, omega (arith, c.1), c.2)

pub none_in : {X : Type 0} (k : X) → Contains [] k → ⊥
none_in k c = omega (arith, c.1)

-- some element of a list that has one at k: what stands for the default of a read that needs none
pub element : {X : Type 0} (xs : List X) (k : ℕ) → k < length xs → X
element [] k h = absurd (omega (arith, h))
element (x ∷ xs) k h = x

-- of a list that is mapped, back to the list
pub All-unmap : {X Y : Type 0} (P : Y → Type 0) (f : X → Y) (xs : List X) → All P (map f xs) → All (λ x. P (f x)) xs
All-unmap P f [] h = All-nil (λ x. P (f x))
All-unmap P f (x ∷ xs) h = All-cons (λ y. P (f y)) x xs (All-head P (f x) (map f xs) h) (All-unmap P f xs (All-tail P (f x) (map f xs) h))
