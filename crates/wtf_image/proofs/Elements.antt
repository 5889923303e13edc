-- A test of each element of a list, as a loop over its places makes it.
use Rattle.std.proofs.Common.{◌≡◌, ℕ, ◌+◌, ◌<◌, Bool, true, false, ◌&&◌, List, map, take, length, get_or, Some, sym, ap, ◌∙◌}
use Rattle.std.specs.List.{list_all, slice_get}
use Rattle.std.proofs.lemmas.List.Folds.{list_all-map, list_all_at, list_all_more}
use Rattle.std.proofs.lemmas.Option.{get_or_from_slice_get, slice_get_within}

module _ {A B : Type 0} (p : B → Bool) (v : A → B) (xs : List A) (i : ℕ) (x : A) (here : slice_get xs i ≡ Some x) where
  is_here : get_or xs i x ≡ x
  is_here = get_or_from_slice_get xs i x x here

  inside : i < length xs
  inside = slice_get_within xs i x here

  pub all_fails : p (v x) ≡ false → list_all p (map v xs) ≡ false
  all_fails bad = list_all-map p v xs ∙ list_all_at (λ y. p (v y)) xs i x inside (ap (λ y. p (v y)) is_here ∙ bad)

  pub all_more : p (v x) ≡ true → list_all p (map v (take i xs)) ≡ true → list_all p (map v (take (i + 1) xs)) ≡ true
  all_more good so_far =
      list_all-map p v (take (i + 1) xs) ∙ list_all_more (λ y. p (v y)) xs i x inside
      ∙ ap (λ b. b && p (v (get_or xs i x))) (sym (list_all-map p v (take i xs)) ∙ so_far)
      ∙ ap (λ y. p (v y)) is_here ∙ good

-- the same of the elements themselves
module _ {A : Type 0} (p : A → Bool) (xs : List A) (i : ℕ) (x : A) (here : slice_get xs i ≡ Some x) where
  pub one_fails : p x ≡ false → list_all p xs ≡ false
  one_fails bad = list_all_at p xs i x (slice_get_within xs i x here) (ap p (get_or_from_slice_get xs i x x here) ∙ bad)

  pub one_more_passes : p x ≡ true → list_all p (take i xs) ≡ true → list_all p (take (i + 1) xs) ≡ true
  one_more_passes good so_far =
      list_all_more p xs i x (slice_get_within xs i x here) ∙ ap (λ b. b && p (get_or xs i x)) so_far ∙ ap p (get_or_from_slice_get xs i x x here) ∙ good
