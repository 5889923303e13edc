-- The rows of a walk over cells.
use Rattle.std.proofs.Common.{◌≡◌, ℕ, ◌≤◌, Bool, true, false, cond, ◌&&◌, List, [], ◌∷◌, length, count_by, Option, None, Some, refl, sym, ap, subst, ◌∙◌, ⊎_elim, arith, suc}
use Rattle.std.specs.Option.{unwrap_or}
use Rattle.std.specs.List.{filter, AllByRecursion}
use Rattle.std.specs.List.Sorted.{IsStrictlySortedBy}
use Rattle.std.specs.Map.{lookup, keys_of}
use Rattle.std.specs.Cmp.{IsTotalOrder, Equal-is}
use Rattle.std.specs.declared.cmp.Ordering.{Ordering}
use Rattle.std.specs.declared.cmp.Ordering.TheVariants.{Less, Equal}
use Rattle.std.specs.declared.ops.Bound.{Bound}
use Rattle.std.specs.declared.ops.Bound.TheVariants.{Unbounded}
use Rattle.std.specs.declared.vec.Vec.{Vec}
use Rattle.std.specs.BTreeMap.{is_at}
use Rattle.std.specs.BTreeMap.Range.{range_contains, is_from_start}
use Rattle.std.proofs.lemmas.Bool.{cases_Bool}
use Rattle.std.proofs.lemmas.Cmp.{eq_by_cmp_equiv}
use Rattle.std.proofs.lemmas.List.{length-map}
use Rattle.std.proofs.lemmas.List.Sums.{length-filter, count_by-le-length}
use Rattle.std.proofs.lemmas.Map.{lookup-none}
use Rattle.std.proofs.lemmas.Map.Entries.{none_past_head, lookup-filter-keys}
use Rattle.std.proofs.lemmas.Map.Keys.{IsDistinct-from_sorted, sorted_head, sorted_tail}
use Rattle.wtf_kv.specs.Seen.{last_seen, value_seen}
use Rattle.wtf_kv.specs.Stores.{versions_in, listed}
use Rattle.wtf_kv.specs.Walks.{with_row, rows_seen, AreRowsFrom, HasRowsUpto}
use Rattle.wtf_kv.proofs.Ranges.{part_sorted, part_versions}
use Rattle.wtf_kv.proofs.Updated.{versions_none}
use Rattle.wtf_kv.proofs.WalkLaws.{row_above, row_sorted, row_found}

keys_listed : {K C A : Type 0} (es : List (K × Vec (ℕ × Option C) A)) → keys_of (listed es) ≡ keys_of es
keys_listed [] = refl
keys_listed (e ∷ es) = ap (λ ks. e.0 ∷ ks) (keys_listed es)

-- a row comes of a key, and a part has no more keys than the whole
one_row : {K C : Type 0} (k : K) (o : Option C) (rows : List (K × C)) (n : ℕ) → length rows ≤ n → length (with_row k o rows) ≤ suc n
one_row k None rows n few = omega (arith, few)
one_row k (Some c) rows n few = omega (arith, few)

rows_few : {K C : Type 0} (n : ℕ) (es : List (K × List (ℕ × Option C))) → length (rows_seen n es) ≤ length es
rows_few n [] = omega arith
rows_few n (e ∷ es) = one_row e.0 (value_seen (last_seen n e.1)) (rows_seen n es) (length es) (rows_few n es)

part_few : {K C A : Type 0} (p : K × Vec (ℕ × Option C) A → Bool) (es : List (K × Vec (ℕ × Option C) A)) → length (listed (filter p es)) ≤ length es
part_few {K = K} {C = C} {A = A} p es =
    let listed_len : length (listed (filter p es)) ≡ length (filter p es) = length-map (filter p es) (λ (e : K × Vec (ℕ × Option C) A). (e.0, e.1.items)) in
    let kept_len : length (filter p es) ≡ count_by p es = length-filter p es in
    omega (arith, listed_len, kept_len, count_by-le-length p es)

module _ {K C : Type 0} (R : K → K → Ordering) where
  rows_above : (n : ℕ) (k : K) (es : List (K × List (ℕ × Option C))) → AllByRecursion (λ y. R k y ≡ Less) (keys_of es) → AllByRecursion (λ y. R k y ≡ Less) (keys_of (rows_seen n es))
  rows_above n k [] h = tt
  rows_above n k (e ∷ es) h = row_above R k e.0 (value_seen (last_seen n e.1)) (rows_seen n es) h.0 (rows_above n k es h.1)

  rows_sorted : (n : ℕ) (es : List (K × List (ℕ × Option C))) → IsStrictlySortedBy R (keys_of es) → IsStrictlySortedBy R (keys_of (rows_seen n es))
  rows_sorted n [] h = h
  rows_sorted n (e ∷ es) h =
      row_sorted R e.0 (value_seen (last_seen n e.1)) (rows_seen n es)
      (rows_above n e.0 es (sorted_head R e.0 (keys_of es) h))
      (rows_sorted n es (sorted_tail R e.0 (keys_of es) h))

  -- a key has in the rows the value that is seen of it
  rows_found : IsTotalOrder R → (n : ℕ) (q : K) (es : List (K × List (ℕ × Option C))) → IsStrictlySortedBy R (keys_of es) → lookup (is_at (R q)) (rows_seen n es) ≡ value_seen (last_seen n (versions_in R es q))
  rows_found o n q [] h = refl
  rows_found o n q (e ∷ es) h =
      let test = is_at (R q) in
      let value : Option C = value_seen (last_seen n e.1) in
      let rest = rows_found o n q es (sorted_tail R e.0 (keys_of es) h) in
      let gone : test e.0 ≡ true → lookup test es ≡ None = λ here. lookup-none test es (none_past_head (eq_by_cmp_equiv o) q e es (IsDistinct-from_sorted R (keys_of (e ∷ es)) h) here) in
      row_found test e.0 value (rows_seen n es) (λ here. rest ∙ ap (λ v. value_seen (last_seen n (unwrap_or v []))) (gone here))
      ∙ ap (cond (test e.0) value) rest
      ∙ elim (test e.0) as (λ b. cond b value (value_seen (last_seen n (versions_in R es q))) ≡ value_seen (last_seen n (unwrap_or (cond b (Some e.1) (lookup test es)) []))) [ true ↦ refl | false ↦ refl ]

module _ {K C A : Type 0} {R : K → K → Ordering} (o : IsTotalOrder R) (exact : (x y : K) → R x y ≡ Equal → x ≡ y) (start : Bound K) (es : List (K × Vec (ℕ × Option C) A)) where
  abbrev part : List (K × Vec (ℕ × Option C) A)
  part = filter (λ e. range_contains R start Unbounded e.0) es

  none_before : (q : K) → is_from_start R start q ≡ false → versions_in R (listed part) q ≡ []
  none_before q before =
      versions_none R part q (lookup-filter-keys (is_at (R q)) (range_contains R start Unbounded) false
      (λ k at. ap (range_contains R start Unbounded) (sym (exact q k ((Equal-is (R q k)).0 at))) ∙ ap (λ b. b && true) before) es)

  -- what is seen in the cells from a start on
  pub rows_of_part : (n : ℕ) → IsStrictlySortedBy R (keys_of es) → AreRowsFrom R start (λ q. value_seen (last_seen n (versions_in R (listed es) q))) (rows_seen n (listed part))
  rows_of_part n h =
      let sorted : IsStrictlySortedBy R (keys_of (listed part)) = subst (IsStrictlySortedBy R) (sym (keys_listed part)) (part_sorted R start es h) in
      let seen : List (ℕ × Option C) → Option C = λ vs. value_seen (last_seen n vs) in
      record {
        ordered = rows_sorted R n (listed part) sorted;
        each = λ q. rows_found R o n q (listed part) sorted
            ∙ ⊎_elim
            (λ from. ap seen (part_versions o exact start es q from) ∙ sym (ap (λ b. cond b (seen (versions_in R (listed es) q)) None) from))
            (λ before. ap seen (none_before q before) ∙ sym (ap (λ b. cond b (seen (versions_in R (listed es) q)) None) before))
            (cases_Bool (is_from_start R start q));
      }

  -- no walk has more rows than there are cells
  pub rows_upto : (n : ℕ) → IsStrictlySortedBy R (keys_of es) → HasRowsUpto R start (λ q. value_seen (last_seen n (versions_in R (listed es) q))) (length es)
  rows_upto n h =
      let few : length (rows_seen n (listed part)) ≤ length (listed part) = rows_few n (listed part) in
      let fewer : length (listed part) ≤ length es = part_few (λ e. range_contains R start Unbounded e.0) es in
      record { rows = rows_seen n (listed part); are = rows_of_part n h; few = omega (arith, few, fewer) }
