-- Loops over lists that try each element.
use Rattle.std.proofs.Common.{◌≡◌, ℕ, ◌+◌, ◌&&◌, Bool, true, false, List, get_or, take, Some, ap, ◌∙◌}
use Rattle.std.specs.Prelude.{slice_get}
use Rattle.std.specs.List.{list_all, list_any}
use Rattle.std.proofs.lemmas.Bool.{or_from}
use Rattle.std.proofs.lemmas.List.Folds.{list_all_more, list_all_at, list_any_more, list_any_at}
use Rattle.std.proofs.lemmas.Option.{slice_get_within, get_or_from_slice_get}

module _ {X : Type 0} (p : X → Bool) (xs : List X) (i : ℕ) (x : X) (is : slice_get xs i ≡ Some x) where
  here : p (get_or xs i x) ≡ p x
  here = ap p (get_or_from_slice_get xs i x x is)

  -- one element more passes
  pub all_more : p x ≡ true → list_all p (take i xs) ≡ true → list_all p (take (i + 1) xs) ≡ true
  all_more good so_far =
      list_all_more p xs i x (slice_get_within xs i x is) ∙ ap (λ b. b && p (get_or xs i x)) so_far ∙ here ∙ good

  -- and one that does not settles it
  pub all_not : p x ≡ false → list_all p xs ≡ false
  all_not bad = list_all_at p xs i x (slice_get_within xs i x is) (here ∙ bad)

  pub any_more : p x ≡ false → list_any p (take i xs) ≡ false → list_any p (take (i + 1) xs) ≡ false
  any_more none so_far =
      list_any_more p xs i x (slice_get_within xs i x is) ∙ or_from (list_any p (take i xs)) (p (get_or xs i x)) so_far (here ∙ none)

  pub any_here : p x ≡ true → list_any p xs ≡ true
  any_here one = list_any_at p xs i x (slice_get_within xs i x is) (here ∙ one)
