-- Laws of what the stores of a shelf hold together.
use Rattle.std.specs.Prelude.{◌≡◌, ℕ, zero, suc, ◌<◌, ◌≤◌, List, [], ◌∷◌, length}
use Rattle.std.specs.List.{sum_by}
use Rattle.std.proofs.Common.{get_or, arith, ◌∙◌}
use Rattle.std.proofs.lemmas.List.Sums.{sum_by-cons}
use Rattle.wtf_dev.specs.Store.{Range, StoreView, SameSizes, StoreKind, KindLaws}
use Rattle.wtf_dev.specs.Each.{EachFollows}
use Rattle.wtf_dev.specs.Sums.{TellsAll, stored_bytes, all_faults}

-- a sum whose terms do not fall
pub sum_grows : {S : Type 0} (f : S → ℕ) (xs ys : List S) → length ys ≡ length xs
    → ((k : ℕ) (d : S) → k < length xs → f (get_or xs k d) ≤ f (get_or ys k d)) → sum_by f xs ≤ sum_by f ys
sum_grows f [] ys same each = omega arith
sum_grows f (x ∷ xs) [] same each = absurd (omega (arith, same))
sum_grows f (x ∷ xs) (y ∷ ys) same each =
    omega (arith, sum_by-cons f x xs, sum_by-cons f y ys, each 0 x (omega arith), sum_grows f xs ys (omega (arith, same)) (λ k d h. each (suc k) d (omega (arith, h))))

-- a store whose lengths are the same
pub stored-same : (old new : StoreView) → SameSizes old new → stored_bytes new ≡ stored_bytes old
stored-same old new same = omega (arith, same 0, same 1, same 2, same 3, same 4, same 5, same 6, same 7)

-- over any span the counts of faults together do not fall
pub all_faults-grows : {S : Type 0} {kind : StoreKind S} → KindLaws kind → {old new : List S} {punched : List (ℕ × Range)}
    → EachFollows kind old new punched → all_faults kind old ≤ all_faults kind new
all_faults-grows {kind = kind} laws {old = old} {new = new} e =
    sum_grows (λ x. (kind.view x).faults) old new e.same_length (λ k d h. (laws.keeps _ _ _ (e.each k d h)).faults)

-- stores that tell their content go on to tell it
pub tells_all-kept : {S : Type 0} {kind : StoreKind S} → KindLaws kind → {old new : List S} {punched : List (ℕ × Range)}
    → EachFollows kind old new punched → TellsAll kind old → TellsAll kind new
tells_all-kept {kind = kind} laws {old = old} {new = new} e tells =
    λ k d h. let below : k < length old = omega (arith, h, e.same_length) in (laws.keeps _ _ _ (e.each k d below)).tells ∙ tells k d below

-- terms that do not fall, and whose sum does not grow, stay
pub sum_still : {S : Type 0} (f : S → ℕ) (xs ys : List S) → length ys ≡ length xs
    → ((k : ℕ) (d : S) → k < length xs → f (get_or xs k d) ≤ f (get_or ys k d)) → sum_by f ys ≤ sum_by f xs
    → (k : ℕ) (d : S) → k < length xs → f (get_or ys k d) ≡ f (get_or xs k d)
sum_still f [] ys same each still k d h = absurd (omega (arith, h))
sum_still f (x ∷ xs) [] same each still k d h = absurd (omega (arith, same))
sum_still f (x ∷ xs) (y ∷ ys) same each still zero d h =
    omega (arith, still, sum_by-cons f x xs, sum_by-cons f y ys, each 0 d (omega arith), sum_grows f xs ys (omega (arith, same)) (λ j e b. each (suc j) e (omega (arith, b))))
sum_still f (x ∷ xs) (y ∷ ys) same each still (suc k) d h =
    sum_still f xs ys (omega (arith, same)) (λ j e b. each (suc j) e (omega (arith, b)))
    (omega (arith, still, sum_by-cons f x xs, sum_by-cons f y ys, each 0 x (omega arith))) k d (omega (arith, h))
