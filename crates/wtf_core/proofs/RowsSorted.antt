-- Lists of entries whose keys rise, with one more entry at their end.
use Rattle.wtf_core.proofs.Common.{Ordering, Less, is_lt, is_eq, eq_by_cmp, option_map, IsTotalOrder, tied_itself, find, is_sorted, below_all, ◌≡◌, Bool, true}
use Rattle.wtf_core.proofs.Common.{false, cond, ◌&&◌, T, List, [], ◌∷◌, ◌++◌, map, Some, is_some, refl, ap, subst, sym}

both : (a b : Bool) → T a → T b → T (a && b)
both true b p q = q
both false b p q = absurd p

first : (a b : Bool) → T (a && b) → T a
first true b p = tt
first false b p = p

second : (a b : Bool) → T (a && b) → T b
second true b p = p
second false b p = absurd p

module _ {K X : Type 0} (R : K → K → Ordering) where
  below-push : (x k : K) (v : X) (es : List (K × X)) → R x k ≡ Less → T (below_all R x es) → T (below_all R x (es ++ (k, v) ∷ []))
  below-push x k v [] lt h = both _ _ (subst (λ o. T (is_lt o)) (sym lt) tt) tt
  below-push x k v (e ∷ es) lt h = both _ _ (first _ _ h) (below-push x k v es lt (second _ _ h))

  -- the values of entries mapped
  below-mapped : {Y : Type 0} (f : X → Y) (x : K) (es : List (K × X)) → T (below_all R x es) → T (below_all R x (map (λ e. (e.0, f e.1)) es))
  below-mapped f x [] h = tt
  below-mapped f x (e ∷ es) h = both _ _ (first _ _ h) (below-mapped f x es (second _ _ h))

  pub is_sorted-mapped : {Y : Type 0} (f : X → Y) (es : List (K × X)) → T (is_sorted R es) → T (is_sorted R (map (λ e. (e.0, f e.1)) es))
  is_sorted-mapped f [] h = tt
  is_sorted-mapped f (e ∷ es) h = both _ _ (below-mapped f e.0 es (first _ _ h)) (is_sorted-mapped f es (second _ _ h))

  pub find-mapped : {Y : Type 0} (f : X → Y) (q : K) (es : List (K × X)) → find R q (map (λ e. (e.0, f e.1)) es) ≡ option_map f (find R q es)
  find-mapped f q [] = refl
  find-mapped f q (e ∷ es) = elim (eq_by_cmp R q e.0) as
      (λ b. cond b (Some (f e.1)) (find R q (map (λ d. (d.0, f d.1)) es)) ≡ option_map f
      (cond b (Some e.1) (find R q es))) [ true ↦ refl | false ↦ find-mapped f q es ]

  found_later : (q : K) (e : K × X) (es : List (K × X)) → is_some (find R q es) ≡ true → is_some (find R q (e ∷ es)) ≡ true
  found_later q e es h = elim (eq_by_cmp R q e.0) as (λ b. is_some (cond b (Some e.1) (find R q es)) ≡ true) [ true ↦ refl | false ↦ h ]

  -- an entry above all that are found
  pub is_sorted-push : IsTotalOrder R → (es : List (K × X)) (k : K) (v : X) → ((x : K) → is_some (find R x es) ≡ true → R x k ≡ Less) → T (is_sorted R es)
      → T (is_sorted R (es ++ (k, v) ∷ []))
  is_sorted-push o [] k v up h = tt
  is_sorted-push o (e ∷ es) k v up h = both _ _
      (below-push e.0 k v es (up e.0 (ap (λ r. is_some (cond (is_eq r) (Some e.1) (find R e.0 es))) (tied_itself o e.0))) (first _ _ h))
      (is_sorted-push o es k v (λ x found. up x (found_later x e es found)) (second _ _ h))
