-- The keys of a range, and those of them that pass a test.
use Rattle.std.proofs.Common.{◌≡◌, ℕ, Bool, true, false, cond, not, ◌||◌, ◌&&◌, List, [], ◌∷◌, ◌++◌, Option, None, Some, is_some, refl, sym, ap, subst, ◌∙◌, ⊎_elim, append_assoc, arith, suc}
use Rattle.std.specs.Option.{unwrap_or, option_map}
use Rattle.std.specs.List.{filter, IsDistinct, All, AllByRecursion}
use Rattle.std.specs.List.Sorted.{IsStrictlySortedBy}
use Rattle.std.specs.Map.{lookup, keys_of}
use Rattle.std.specs.declared.cmp.Ordering.{Ordering}
use Rattle.std.specs.declared.cmp.Ordering.TheVariants.{Less, Equal, Greater}
use Rattle.std.specs.declared.ops.Bound.TheVariants.{Included, Unbounded}
use Rattle.std.specs.declared.ops.Bound.{Bound}
use Rattle.std.specs.declared.vec.Vec.{Vec}
use Rattle.std.specs.BTreeMap.{BTreeMap, IsOrdered, get, is_at}
use Rattle.std.proofs.lemmas.Map.Views.{All-found}
use Rattle.wtf_kv.specs.Seen.{ascends, has_upto}
use Rattle.std.specs.BTreeMap.Range.{range_contains, is_from_start}
use Rattle.std.specs.Ordering.{is_le, is_gt, is_lt, is_eq, eq_by_cmp, ordering_reverse}
use Rattle.std.specs.Cmp.{IsTotalOrder, Equal-is}
use Rattle.std.proofs.lemmas.Cmp.{eq_by_cmp_equiv, tied_itself}
use Rattle.std.proofs.lemmas.Map.{lookup-none}
use Rattle.std.proofs.lemmas.List.Kept.{IsStrictlySortedBy-filter}
use Rattle.std.proofs.lemmas.Map.Entries.{none_past_head, lookup-filter-keys}
use Rattle.std.proofs.lemmas.Map.Keys.{IsDistinct-tail, IsDistinct-from_sorted, sorted_head}
use Rattle.std.proofs.lemmas.Bool.{cases_Bool}
use Rattle.wtf_kv.specs.Staging.{value_next}
use Rattle.wtf_kv.specs.Edits.{is_between}
use Rattle.wtf_kv.specs.Stores.{names, versions_in, listed}
use Rattle.wtf_kv.proofs.Updated.{versions-get, versions_none, versions_alike}

le_reversed : (r : Ordering) → not (is_lt r) ≡ is_le (ordering_reverse r)
le_reversed Less = refl
le_reversed Equal = refl
le_reversed Greater = refl

and-false : (b : Bool) → (b && false) ≡ false
and-false true = refl
and-false false = refl

module _ {K X : Type 0} (R : K → K → Ordering) (p : K → Bool) (t : X → Bool) (e : K × X) (es : List (K × X)) (q : K) where
  -- one entry that is taken or not
  with_head : Bool → Bool → Bool
  with_head b c = names R (keys_of (cond b (cond c (e ∷ filter (λ e. t e.1) (filter (λ e. p e.0) es)) (filter (λ e. t e.1) (filter (λ e. p e.0) es))) (filter (λ e. t e.1) (filter (λ e. p e.0) es)))) q

  taken : (b : Bool) → p e.0 ≡ b → names R (keys_of (filter (λ e. t e.1) (filter (λ e. p e.0) (e ∷ es)))) q ≡ with_head b (t e.1)
  unfolding with_head
  taken b is = ap (λ b. names R (keys_of (filter (λ e. t e.1) (cond b (e ∷ filter (λ e. p e.0) es) (filter (λ e. p e.0) es)))) q) is ∙ elim b as (λ b. names R (keys_of (filter (λ e. t e.1) (cond b (e ∷ filter (λ e. p e.0) es) (filter (λ e. p e.0) es)))) q ≡ names R (keys_of (cond b (cond (t e.1) (e ∷ filter (λ e. t e.1) (filter (λ e. p e.0) es)) (filter (λ e. t e.1) (filter (λ e. p e.0) es))) (filter (λ e. t e.1) (filter (λ e. p e.0) es)))) q) [ true ↦ refl | false ↦ refl ]

  head : is_at (R e.0) q ≡ true → names R (keys_of (filter (λ e. t e.1) (filter (λ e. p e.0) es))) q ≡ false → p q ≡ p e.0 → names R (keys_of (filter (λ e. t e.1) (filter (λ e. p e.0) (e ∷ es)))) q ≡ (p q && t e.1)
  unfolding with_head
  head at none same = taken (p e.0) refl ∙ elim (p e.0) as (λ b. with_head b (t e.1) ≡ (b && t e.1)) [
    | true ↦ elim (t e.1) as (λ c. with_head true c ≡ c) [ true ↦ ap (λ b. b || names R (keys_of (filter (λ e. t e.1) (filter (λ e. p e.0) es))) q) at | false ↦ none ]
    | false ↦ none
  ] ∙ ap (λ b. b && t e.1) (sym same)

  past : is_at (R e.0) q ≡ false → names R (keys_of (filter (λ e. t e.1) (filter (λ e. p e.0) (e ∷ es)))) q ≡ names R (keys_of (filter (λ e. t e.1) (filter (λ e. p e.0) es))) q
  unfolding with_head
  past apart = taken (p e.0) refl ∙ elim (p e.0) as (λ b. with_head b (t e.1) ≡ names R (keys_of (filter (λ e. t e.1) (filter (λ e. p e.0) es))) q) [
    | true ↦ elim (t e.1) as (λ c. with_head true c ≡ names R (keys_of (filter (λ e. t e.1) (filter (λ e. p e.0) es))) q) [ true ↦ ap (λ b. b || names R (keys_of (filter (λ e. t e.1) (filter (λ e. p e.0) es))) q) apart | false ↦ refl ]
    | false ↦ refl
  ]

module _ {K : Type 0} {R : K → K → Ordering} (o : IsTotalOrder R) where
  -- the test of a range is that of a cut
  pub between_included : (from to q : K) → range_contains R (Included from) (Included to) q ≡ is_between R from to q
  between_included from to q = ap (λ b. is_le (R from q) && b) (le_reversed (R to q) ∙ ap is_le (sym (o.antisymm q to)))

  module _ (exact : (x y : K) → R x y ≡ Equal → x ≡ y) where
    at_back : (k q : K) → is_at (R q) k ≡ false → is_at (R k) q ≡ false
    at_back k q apart =
        ⊎_elim
        (λ at. let same : k ≡ q = exact k q ((Equal-is (R k q)).0 at) in
        let bad : true ≡ false = sym at ∙ ap (λ x. is_at (R x) q) same ∙ sym (ap (λ x. is_at (R q) x) same) ∙ apart in cc)
        (λ no. no)
        (cases_Bool (is_at (R k) q))

    -- what a key has of the entries that pass two tests, one of the key and one of the value
    pub named : {X : Type 0} (p : K → Bool) (t : X → Bool) (es : List (K × X)) (q : K) → IsDistinct (eq_by_cmp R) (keys_of es) → names R (keys_of (filter (λ e. t e.1) (filter (λ e. p e.0) es))) q ≡ (p q && unwrap_or (option_map t (lookup (is_at (R q)) es)) false)
    named p t [] q distinct = sym (and-false (p q))
    named {X = X} p t (e ∷ es) q distinct =
        let rest = named p t es q (IsDistinct-tail (eq_by_cmp R) e.0 (keys_of es) distinct) in
        let kept : List (K × X) → List (K × X) = λ l. filter (λ e. t e.1) (filter (λ e. p e.0) l) in
        let value : Option X → Bool = λ v. unwrap_or (option_map t v) false in
        ⊎_elim
        (λ here.
        let same : q ≡ e.0 = exact q e.0 ((Equal-is (R q e.0)).0 here) in
        let back : is_at (R e.0) q ≡ true = ap (λ x. is_at (R x) q) (sym same) ∙ ap (λ x. is_at (R q) x) same ∙ here in
        let none : names R (keys_of (kept es)) q ≡ false = rest ∙ ap (λ v. p q && value v) (lookup-none (is_at (R q)) es (none_past_head (eq_by_cmp_equiv o) q e es distinct here)) ∙ and-false (p q) in
        head R p t e es q back none (ap p same) ∙ sym (ap (λ b. p q && value (cond b (Some e.1) (lookup (is_at (R q)) es))) here))
        (λ apart. past R p t e es q (at_back e.0 q apart) ∙ rest ∙ sym (ap (λ b. p q && value (cond b (Some e.1) (lookup (is_at (R q)) es))) apart))
        (cases_Bool (is_at (R q) e.0))

    -- the keys of a range whose next version has a value
    pub valued : {C A : Type 0} (number : ℕ) (from to : K) (es : List (K × Vec (ℕ × Option C) A)) (q : K) → IsDistinct (eq_by_cmp R) (keys_of es) → names R (keys_of (filter (λ e. is_some (value_next number e.1.items)) (filter (λ e. range_contains R (Included from) (Included to) e.0) es))) q ≡ (is_between R from to q && is_some (value_next number (versions_in R (listed es) q)))
    valued number from to es q distinct =
        named (range_contains R (Included from) (Included to)) (λ v. is_some (value_next number v.items)) es q distinct
        ∙ ap (λ b. b && unwrap_or (option_map (λ v. is_some (value_next number v.items)) (lookup (is_at (R q)) es)) false) (between_included from to q)
        ∙ ap (λ b. is_between R from to q && b) (elim (lookup (is_at (R q)) es) as (λ v. unwrap_or (option_map (λ v. is_some (value_next number v.items)) v) false ≡ is_some (value_next number (unwrap_or (option_map (λ v. v.items) v) []))) [ None ↦ refl | Some v ↦ refl ] ∙ ap (λ vs. is_some (value_next number vs)) (sym (versions-get R es q)))

-- ---- what holds of each entry
pub each_from_all : {X : Type 0} (P Q : X → Type 0) → ((x : X) → P x → Q x) → (xs : List X) → All P xs → AllByRecursion Q xs
each_from_all P Q h [] all = tt
each_from_all P Q h (x ∷ xs) all = (h x (all 0 x (omega arith)), each_from_all P Q h xs (λ k d lt. all (suc k) d (omega arith)))

pub each-filter : {X : Type 0} (Q : X → Type 0) (p : X → Bool) (xs : List X) → AllByRecursion Q xs → AllByRecursion Q (filter p xs)
each-filter Q p [] all = tt
each-filter Q p (x ∷ xs) all =
    let rest = each-filter Q p xs all.1 in
    elim (p x) as (λ b. AllByRecursion Q (cond b (x ∷ filter p xs) (filter p xs))) [ true ↦ (all.0, rest) | false ↦ rest ]

-- the versions of each entry ascend, where those of each key do
pub each_ascends : {K C A : Type 0} {R : K → K → Ordering} → IsTotalOrder R → (m : BTreeMap K (Vec (ℕ × Option C) A)) → IsOrdered R m → ((q : K) → ascends (versions_in R (listed m.entries) q)) → AllByRecursion (λ e. ascends e.1.items) m.entries
each_ascends {R = R} o m ordered good =
    each_from_all (λ e. get R m e.0 ≡ Some e.1) (λ e. ascends e.1.items)
    (λ e found. subst ascends (versions-get R m.entries e.0 ∙ ap (λ v. unwrap_or (option_map (λ w. w.items) v) []) found) (good e.0))
    m.entries (All-found o m ordered)

-- one more key of a loop over entries
pub keys_more : {K X : Type 0} (t : X → Bool) (ks : List K) (e : K × X) (s rest : List (K × X)) (all : List K) → s ≡ e ∷ rest → ks ++ keys_of (filter (λ e. t e.1) s) ≡ all → (t e.1 ≡ true → (ks ++ e.0 ∷ []) ++ keys_of (filter (λ e. t e.1) rest) ≡ all) × (t e.1 ≡ false → ks ++ keys_of (filter (λ e. t e.1) rest) ≡ all)
keys_more t ks e s rest all is h =
    let whole : ks ++ keys_of (cond (t e.1) (e ∷ filter (λ e. t e.1) rest) (filter (λ e. t e.1) rest)) ≡ all = sym (ap (λ l. ks ++ keys_of (filter (λ e. t e.1) l)) is) ∙ h in (
      λ take. append_assoc ks (e.0 ∷ []) (keys_of (filter (λ e. t e.1) rest)) ∙ sym (ap (λ b. ks ++ keys_of (cond b (e ∷ filter (λ e. t e.1) rest) (filter (λ e. t e.1) rest))) take) ∙ whole,
      λ leave. sym (ap (λ b. ks ++ keys_of (cond b (e ∷ filter (λ e. t e.1) rest) (filter (λ e. t e.1) rest))) leave) ∙ whole,
    )

found_some : {C A : Type 0} (number : ℕ) (v : Option (Vec (ℕ × Option C) A)) → has_upto number (unwrap_or (option_map (λ w. w.items) v) []) ≡ true → is_some v ≡ true
found_some number None e = cc
found_some number (Some v) e = refl

keys-filter : {K X : Type 0} (p : K → Bool) (es : List (K × X)) → keys_of (filter (λ e. p e.0) es) ≡ filter p (keys_of es)
keys-filter p [] = refl
keys-filter p (e ∷ es) = elim (p e.0) as (λ b. keys_of (cond b (e ∷ filter (λ e. p e.0) es) (filter (λ e. p e.0) es)) ≡ cond b (e.0 ∷ filter p (keys_of es)) (filter p (keys_of es))) [ true ↦ ap (λ l. e.0 ∷ l) (keys-filter p es) | false ↦ keys-filter p es ]

-- the keys from a start on are in order
pub part_sorted : {K X : Type 0} (R : K → K → Ordering) (start : Bound K) (es : List (K × X)) → IsStrictlySortedBy R (keys_of es) → IsStrictlySortedBy R (keys_of (filter (λ e. range_contains R start Unbounded e.0) es))
part_sorted R start es h = subst (IsStrictlySortedBy R) (sym (keys-filter (range_contains R start Unbounded) es)) (IsStrictlySortedBy-filter R (range_contains R start Unbounded) (keys_of es) h)

pub from_start : {K : Type 0} (R : K → K → Ordering) (start : Bound K) (q : K) → range_contains R start Unbounded q ≡ is_from_start R start q
from_start R start q = elim (is_from_start R start q) as (λ b. (b && true) ≡ b) [ true ↦ refl | false ↦ refl ]

-- ---- the entries from a start on, whatever they hold
module _ {K X : Type 0} {R : K → K → Ordering} (o : IsTotalOrder R) (exact : (x y : K) → R x y ≡ Equal → x ≡ y) where
  pub part_inside : (start : Bound K) (es : List (K × X)) → AllByRecursion (λ e. is_from_start R start e.0 ≡ true) (filter (λ e. range_contains R start Unbounded e.0) es)
  part_inside start [] = tt
  part_inside start (e ∷ es) =
      let rest = part_inside start es in
      ⊎_elim
      (λ inside. subst (λ b. AllByRecursion (λ e. is_from_start R start e.0 ≡ true) (cond b (e ∷ filter (λ e. range_contains R start Unbounded e.0) es) (filter (λ e. range_contains R start Unbounded e.0) es))) (sym inside) (sym (from_start R start e.0) ∙ inside, rest))
      (λ outside. subst (λ b. AllByRecursion (λ e. is_from_start R start e.0 ≡ true) (cond b (e ∷ filter (λ e. range_contains R start Unbounded e.0) es) (filter (λ e. range_contains R start Unbounded e.0) es))) (sym outside) rest)
      (cases_Bool (range_contains R start Unbounded e.0))

  pub later_key : (k q : K) (es : List (K × X)) → AllByRecursion (λ y. R k y ≡ Less) (keys_of es) → is_some (lookup (is_at (R q)) es) ≡ true → is_gt (R k q) ≡ false
  later_key k q [] less found = cc
  later_key k q (e ∷ es) less found =
      ⊎_elim
      (λ here. let same : q ≡ e.0 = exact q e.0 ((Equal-is (R q e.0)).0 here) in ap (λ x. is_gt (R k x)) same ∙ ap is_gt less.0)
      (λ apart. later_key k q es less.1 (sym (ap (λ b. is_some (cond b (Some e.1) (lookup (is_at (R q)) es))) apart) ∙ found))
      (cases_Bool (is_at (R q) e.0))

-- ---- the first of the entries from a start on
module _ {K C A : Type 0} {R : K → K → Ordering} (o : IsTotalOrder R) (exact : (x y : K) → R x y ≡ Equal → x ≡ y) where
  -- a key from the start on has in the part what it has in the whole
  pub part_versions : (start : Bound K) (es : List (K × Vec (ℕ × Option C) A)) (q : K) → is_from_start R start q ≡ true → versions_in R (listed (filter (λ e. range_contains R start Unbounded e.0) es)) q ≡ versions_in R (listed es) q
  part_versions start es q from =
      versions_alike R es _ q (lookup-filter-keys (is_at (R q)) (range_contains R start Unbounded) true
      (λ k at. ap (range_contains R start Unbounded) (sym (exact q k ((Equal-is (R q k)).0 at))) ∙ from_start R start q ∙ from) es)

  -- the versions of the first entry's key, and of another
  pub head_versions : (e : K × Vec (ℕ × Option C) A) (es : List (K × Vec (ℕ × Option C) A)) → versions_in R (listed (e ∷ es)) e.0 ≡ e.1.items
  head_versions e es = ap (λ b. unwrap_or (cond b (Some e.1.items) (lookup (is_at (R e.0)) (listed es))) []) (ap is_eq (tied_itself o e.0))

  -- the first entry has no version, so what is left has what there is
  pub past_head : (number : ℕ) (e : K × Vec (ℕ × Option C) A) (es : List (K × Vec (ℕ × Option C) A)) (q : K) → IsStrictlySortedBy R (keys_of (e ∷ es)) → has_upto number e.1.items ≡ false → has_upto number (versions_in R (listed (e ∷ es)) q) ≡ has_upto number (versions_in R (listed es) q)
  past_head number e es q sorted none =
      ⊎_elim
      (λ here.
      let gone : lookup (is_at (R q)) es ≡ None = lookup-none (is_at (R q)) es (none_past_head (eq_by_cmp_equiv o) q e es (IsDistinct-from_sorted R (keys_of (e ∷ es)) sorted) here) in
      ap (λ b. has_upto number (unwrap_or (cond b (Some e.1.items) (lookup (is_at (R q)) (listed es))) [])) here ∙ none
      ∙ sym (ap (has_upto number) (versions_none R es q gone)))
      (λ apart. ap (λ b. has_upto number (unwrap_or (cond b (Some e.1.items) (lookup (is_at (R q)) (listed es))) [])) apart)
      (cases_Bool (is_at (R q) e.0))

  -- no key that has a version lies before the first
  pub least_head : (number : ℕ) (e : K × Vec (ℕ × Option C) A) (es : List (K × Vec (ℕ × Option C) A)) (q : K) → IsStrictlySortedBy R (keys_of (e ∷ es)) → has_upto number (versions_in R (listed (e ∷ es)) q) ≡ true → is_gt (R e.0 q) ≡ false
  least_head number e es q sorted has =
      ⊎_elim
      (λ here. let same : q ≡ e.0 = exact q e.0 ((Equal-is (R q e.0)).0 here) in ap (λ x. is_gt (R e.0 x)) same ∙ ap is_gt (tied_itself o e.0))
      (λ apart. later_key o exact e.0 q es (sorted_head R e.0 (keys_of es) sorted)
      (found_some number (lookup (is_at (R q)) es) (ap (has_upto number) (sym (versions-get R es q)) ∙ sym (ap (λ b. has_upto number (unwrap_or (cond b (Some e.1.items) (lookup (is_at (R q)) (listed es))) [])) apart) ∙ has)))
      (cases_Bool (is_at (R q) e.0))
