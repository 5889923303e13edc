-- A list of keys without those that stand next to an equal one.
use Rattle.std.proofs.Common.{◌≡◌, Bool, true, false, cond, ◌||◌, List, [], ◌∷◌, refl, sym, ap, ◌∙◌, ⊎_elim}
use Rattle.std.specs.declared.cmp.Ordering.{Ordering}
use Rattle.std.specs.BTreeMap.{is_at}
use Rattle.std.specs.List.{dedup, dedup_from}
use Rattle.std.proofs.lemmas.Bool.{cases_Bool}
use Rattle.wtf_kv.specs.Stores.{names}

twice : (a b : Bool) → (a || b) ≡ (a || (a || b))
twice true b = refl
twice false b = refl

module _ {K : Type 0} (R : K → K → Ordering) (same : K → K → Bool) (exact : (x y : K) → same x y ≡ true → x ≡ y) where
  names-dedup_from : (k : K) (xs : List K) (q : K) → names R (dedup_from same k xs) q ≡ names R (k ∷ xs) q
  names-dedup_from k [] q = refl
  names-dedup_from k (x ∷ xs) q =
      ⊎_elim
      (λ again.
      ap (λ b. names R (cond b (dedup_from same k xs) (k ∷ dedup_from same x xs)) q) again
      ∙ names-dedup_from k xs q ∙ twice (is_at (R k) q) (names R xs q)
      ∙ ap (λ y. is_at (R k) q || (is_at (R y) q || names R xs q)) (sym (exact x k again)))
      (λ apart.
      ap (λ b. names R (cond b (dedup_from same k xs) (k ∷ dedup_from same x xs)) q) apart
      ∙ ap (λ t. is_at (R k) q || t) (names-dedup_from x xs q))
      (cases_Bool (same x k))

  -- they name what the list named
  pub names-dedup : (xs : List K) (q : K) → names R (dedup same xs) q ≡ names R xs q
  names-dedup [] q = refl
  names-dedup (x ∷ xs) q = names-dedup_from x xs q
