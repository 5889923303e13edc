-- Laws of lists of entries in the order of their keys, in which one key after another is set.
use Rattle.std.proofs.Common.{◌≡◌, Bool, true, false, cond, not, ◌&&◌, T, List, [], ◌∷◌, map, Option, None, Some, refl, sym, ap, subst, ◌∙◌}
use Rattle.std.specs.declared.cmp.Ordering.{Ordering}
use Rattle.std.specs.declared.cmp.Ordering.TheVariants.{Less, Equal, Greater}
use Rattle.std.specs.Ordering.{is_lt, is_eq, eq_by_cmp, match_ordering}
use Rattle.std.specs.Cmp.{IsTotalOrder, alike_right, eq_by_cmp_equiv}
use Rattle.std.specs.Map.{lookup, remove_entry}
use Rattle.std.specs.BTreeMap.{is_at, insert_entry}
use Rattle.std.specs.FinMap.Entries.{find, put, by_order, where_key, is_sorted, below_all, is_sorted-put, is_sorted-where_key, find-put, find-where_key}
use Rattle.std.specs.FinMap.Entries.{find_tied}
use Rattle.wtf_imagefmt.specs.Shapes.{ascends, ascends_from}
use Rattle.wtf_changes.specs.Drafts.{set, set_all, put_back}

pub both : (a b : Bool) → T a → T b → T (a && b)
both true b p q = q
both false b p q = absurd p

pub first : (a b : Bool) → T (a && b) → T a
first true b p = tt
first false b p = p

pub second : (a b : Bool) → T (a && b) → T b
second true b p = p
second false b p = absurd p

less_is : (o : Ordering) → T (is_lt o) → o ≡ Less
less_is Less p = refl
less_is Equal p = absurd p
less_is Greater p = absurd p

pub tied_is : (o : Ordering) → is_eq o ≡ true → o ≡ Equal
tied_is Less e = cc
tied_is Equal e = refl
tied_is Greater e = cc

holds : (b : Bool) → b ≡ true → T b
holds b e = subst T (sym e) tt

left_of : (a b : Bool) → (a && b) ≡ true → a ≡ true
left_of true b h = refl
left_of false b h = cc

right_of : (a b : Bool) → (a && b) ≡ true → b ≡ true
right_of true b h = h
right_of false b h = cc

-- what is told last of a key: what it is set to, or else what it has
abbrev pub latest : {X : Type 0} → Option (Option X) → Option X → Option X
latest None old = old
latest (Some now) old = now

-- ---- keys in order

module _ {K X : Type 0} (R : K → K → Ordering) where
  insert-put : (es : List (K × X)) (k : K) (v : X) → insert_entry R es k v ≡ put R k v es
  insert-put [] k v = refl
  insert-put (e ∷ es) k v = elim (R k e.0) as
      (λ r. match_ordering r ((k, v) ∷ e ∷ es) ((e.0, v) ∷ es) (e ∷ insert_entry R es k v) ≡ by_order r ((k, v) ∷ e ∷ es) ((e.0, v) ∷ es) (e ∷ put R k v es)) [
        | Less ↦ refl
        | Equal ↦ refl
        | Greater ↦ ap (λ l. e ∷ l) (insert-put es k v)
      ]

  pub find-lookup : (q : K) (es : List (K × X)) → find R q es ≡ lookup (is_at (R q)) es
  find-lookup q [] = refl
  find-lookup q (e ∷ es) = ap (cond (is_at (R q) e.0) (Some e.1)) (find-lookup q es)

  pub none_above : (q : K) (es : List (K × X)) → T (below_all R q es) → find R q es ≡ None
  none_above q [] h = refl
  none_above q (e ∷ es) h = ap (λ r. cond (is_eq r) (Some e.1) (find R q es)) (less_is _ (first _ _ h)) ∙ none_above q es (second _ _ h)

-- a key that does not tie with k
abbrev off : {K : Type 0} → (K → K → Ordering) → K → K → Bool
off R k x = not (eq_by_cmp R k x)

module _ {K X : Type 0} {R : K → K → Ordering} (o : IsTotalOrder R) where
  kept_all : (k y : K) (es : List (K × X)) → R k y ≡ Equal → T (below_all R y es) → where_key R (off R k) es ≡ es
  kept_all k y [] t h = refl
  kept_all k y (e ∷ es) t h =
      let lt : R k e.0 ≡ Less = o.congr k y e.0 t ∙ less_is _ (first _ _ h) in
      ap (λ r. cond (not (is_eq r)) (e ∷ where_key R (off R k) es) (where_key R (off R k) es)) lt ∙ ap (λ l. e ∷ l) (kept_all k y es t (second _ _ h))

  remove-where : (k : K) (es : List (K × X)) → T (is_sorted R es) → remove_entry (is_at (R k)) es ≡ where_key R (off R k) es
  remove-where k [] h = refl
  remove-where k (e ∷ es) h = elim (is_eq (R k e.0)) as
      (λ b. is_eq (R k e.0) ≡ b → cond b es (e ∷ remove_entry (is_at (R k)) es) ≡ cond (not b) (e ∷ where_key R (off R k) es) (where_key R (off R k) es)) [
        | true ↦ λ t. sym (kept_all k e.0 es (tied_is _ t) (first _ _ h))
        | false ↦ λ t. ap (λ l. e ∷ l) (remove-where k es (second _ _ h))
      ] refl

  turned : (b : Bool) (x y : Option X) → cond (not b) x y ≡ cond b y x
  turned true x y = refl
  turned false x y = refl

  pub set-sorted : (es : List (K × X)) (k : K) (v : Option X) → T (is_sorted R es) → T (is_sorted R (set R es k v))
  set-sorted es k None h = subst (λ l. T (is_sorted R l)) (sym (remove-where k es h)) (is_sorted-where_key R (off R k) es h)
  set-sorted es k (Some v) h = subst (λ l. T (is_sorted R l)) (sym (insert-put R es k v)) (is_sorted-put R o k v es h)

  pub find-set : (q k : K) (v : Option X) (es : List (K × X)) → T (is_sorted R es) → find R q (set R es k v) ≡ cond (eq_by_cmp R q k) v (find R q es)
  find-set q k None es h =
      ap (find R q) (remove-where k es h)
      ∙ find-where_key R (off R k) q (λ x t. ap (λ r. not (is_eq r)) (sym (alike_right o q x k t))) es
      ∙ turned (eq_by_cmp R k q) (find R q es) None ∙ ap (λ b. cond b None (find R q es)) ((eq_by_cmp_equiv o).symm k q)
  find-set q k (Some v) es h = ap (find R q) (insert-put R es k v) ∙ find-put R o q k v es

  pub put_back-sorted : (es : List (K × X)) (k : K) (v : X) → T (is_sorted R es) → T (is_sorted R (put_back R es k v))
  put_back-sorted es k v h = set-sorted (set R es k None) k (Some v) (set-sorted es k None h)

  twice : (b : Bool) (v : X) (old : Option X) → cond b (Some v) (cond b None old) ≡ cond b (Some v) old
  twice true v old = refl
  twice false v old = refl

  pub find-put_back : (q k : K) (v : X) (es : List (K × X)) → T (is_sorted R es) → find R q (put_back R es k v) ≡ cond (eq_by_cmp R q k) (Some v) (find R q es)
  find-put_back q k v es h =
      find-set q k (Some v) (set R es k None) (set-sorted es k None h) ∙ ap (cond (eq_by_cmp R q k) (Some v)) (find-set q k None es h)
      ∙ twice (eq_by_cmp R q k) v (find R q es)

  pub set_all-sorted : (es : List (K × X)) (cs : List (K × Option X)) → T (is_sorted R es) → T (is_sorted R (set_all R es cs))
  set_all-sorted es [] h = h
  set_all-sorted es (c ∷ cs) h = set_all-sorted (set R es c.0 c.1) cs (set-sorted es c.0 c.1 h)

-- what ties with the first key of a list in order is not found behind it
pub behind_none : {K X : Type 0} {R : K → K → Ordering} → IsTotalOrder R → (q k : K) (es : List (K × X)) → R q k ≡ Equal → T (below_all R k es)
    → find R q es ≡ None
behind_none {R = R} o q k es t h = sym (find_tied R o q k t es) ∙ none_above R k es h

module _ {K X : Type 0} {R : K → K → Ordering} (o : IsTotalOrder R) where
  -- what a key has, where keys are set that are named once
  pub find-set_all : (q : K) (cs : List (K × Option X)) (es : List (K × X)) → T (is_sorted R es) → T (is_sorted R cs)
      → find R q (set_all R es cs) ≡ latest (find R q cs) (find R q es)
  find-set_all q [] es h g = refl
  find-set_all q (c ∷ cs) es h g =
      find-set_all q cs (set R es c.0 c.1) (set-sorted o es c.0 c.1 h) (second _ _ g) ∙ ap (latest (find R q cs)) (find-set o q c.0 c.1 es h)
      ∙ one (eq_by_cmp R q c.0) refl
    where
      one : (b : Bool) → eq_by_cmp R q c.0 ≡ b → latest (find R q cs) (cond b c.1 (find R q es)) ≡ latest (cond b (Some c.1) (find R q cs)) (find R q es)
      one true t = ap (λ n. latest n c.1) (behind_none o q c.0 cs (tied_is _ t) (first _ _ g))
      one false t = refl

-- ---- rows that rise

module _ {A K X : Type 0} (R : K → K → Ordering) (o : IsTotalOrder R) (entry : A → K × X) (before : A → A → Bool) where
  below-from : ((a b : A) → before a b ≡ true → R (entry a).0 (entry b).0 ≡ Less) → (k : K) (y : A) (ys : List A) → R k (entry y).0 ≡ Less
      → ascends_from before y ys ≡ true
      → T (below_all R k (map entry (y ∷ ys)))
  below-from is k y [] lt h = both _ _ (holds _ (ap is_lt lt)) tt
  below-from is k y (z ∷ zs) lt h =
      let next = is y z (left_of _ _ h) in
      both _ _ (holds _ (ap is_lt lt)) (below-from is k z zs (o.trans k (entry y).0 (entry z).0 lt next) (right_of _ _ h))

  sorted-from : ((a b : A) → before a b ≡ true → R (entry a).0 (entry b).0 ≡ Less) → (x : A) (xs : List A) → ascends_from before x xs ≡ true
      → T (is_sorted R (map entry (x ∷ xs)))
  sorted-from is x [] h = tt
  sorted-from is x (y ∷ ys) h =
      both _ _ (below-from is (entry x).0 y ys (is x y (left_of _ _ h)) (right_of _ _ h)) (sorted-from is y ys (right_of _ _ h))

  -- the entries of rows that rise are in order
  pub rows-sorted : ((a b : A) → before a b ≡ true → R (entry a).0 (entry b).0 ≡ Less) → (xs : List A) → ascends before xs ≡ true
      → T (is_sorted R (map entry xs))
  rows-sorted is [] h = tt
  rows-sorted is (x ∷ xs) h = sorted-from is x xs h

module _ {A K X : Type 0} (R : K → K → Ordering) (make : K × X → A) (before : A → A → Bool) where
  rise-from : ((a b : K × X) → T (is_lt (R a.0 b.0)) → before (make a) (make b) ≡ true) → (e : K × X) (es : List (K × X)) → T (is_sorted R (e ∷ es))
      → ascends_from before (make e) (map make es) ≡ true
  rise-from is e [] h = refl
  rise-from is e (d ∷ ds) h =
      ap (λ b. b && ascends_from before (make d) (map make ds)) (is e d (first _ _ (first _ _ h))) ∙ rise-from is d ds (second _ _ h)

  -- and the rows of entries in order rise
  pub rows-rise : ((a b : K × X) → T (is_lt (R a.0 b.0)) → before (make a) (make b) ≡ true) → (es : List (K × X)) → T (is_sorted R es)
      → ascends before (map make es) ≡ true
  rows-rise is [] h = refl
  rows-rise is (e ∷ es) h = rise-from is e es h
