-- Laws of walks over a map: of lists of rows with one more, and of the rows from a start on.
use Rattle.std.proofs.Common.{◌≡◌, Bool, true, false, cond, List, [], ◌∷◌, Option, None, Some, is_some, refl, sym, ap, ◌∙◌, ⊎_elim}
use Rattle.std.specs.List.{AllByRecursion}
use Rattle.std.specs.List.Sorted.{IsStrictlySortedBy}
use Rattle.std.specs.Map.{lookup, keys_of}
use Rattle.std.specs.Cmp.{IsTotalOrder}
use Rattle.std.specs.Ordering.{is_eq}
use Rattle.std.specs.declared.cmp.Ordering.{Ordering}
use Rattle.std.specs.declared.cmp.Ordering.TheVariants.{Less}
use Rattle.std.specs.declared.ops.Bound.{Bound}
use Rattle.std.specs.BTreeMap.{is_at}
use Rattle.std.specs.BTreeMap.Range.{is_from_start}
use Rattle.std.proofs.lemmas.Bool.{cases_Bool, both_ways}
use Rattle.std.proofs.lemmas.Cmp.{tied_itself}
use Rattle.wtf_kv.specs.Walks.{with_row, AreRowsFrom}

module _ {K C : Type 0} (order : K → K → Ordering) where
  pub row_above : (k x : K) (o : Option C) (rows : List (K × C)) → order k x ≡ Less → AllByRecursion (λ y. order k y ≡ Less) (keys_of rows) → AllByRecursion (λ y. order k y ≡ Less) (keys_of (with_row x o rows))
  row_above k x None rows lt h = h
  row_above k x (Some c) rows lt h = (lt, h)

  pub row_sorted : (k : K) (o : Option C) (rows : List (K × C)) → AllByRecursion (λ y. order k y ≡ Less) (keys_of rows) → IsStrictlySortedBy order (keys_of rows) → IsStrictlySortedBy order (keys_of (with_row k o rows))
  unfolding IsStrictlySortedBy
  row_sorted k None rows above h = h
  row_sorted k (Some c) rows above h = (above, h)

pub row_found : {K C : Type 0} (test : K → Bool) (k : K) (o : Option C) (rows : List (K × C)) → (test k ≡ true → lookup test rows ≡ None) → lookup test (with_row k o rows) ≡ cond (test k) o (lookup test rows)
row_found test k None rows gone =
    ⊎_elim
    (λ here. gone here ∙ sym (ap (λ b. cond b None (lookup test rows)) here))
    (λ apart. sym (ap (λ b. cond b None (lookup test rows)) apart))
    (cases_Bool (test k))
row_found test k (Some c) rows gone = refl

module _ {K C : Type 0} {order : K → K → Ordering} (total : IsTotalOrder order) where
  each_found : (p : K → Bool) (rows : List (K × C)) → ((q : K) → is_some (lookup (is_at (order q)) rows) ≡ true → p q ≡ true) → AllByRecursion (λ e. p e.0 ≡ true) rows
  each_found p [] h = tt
  each_found p (e ∷ es) h = (
    h e.0 (ap (λ r. is_some (cond (is_eq r) (Some e.1) (lookup (is_at (order e.0)) es))) (tied_itself total e.0)),
    each_found p es (λ q some. h q (elim (is_at (order q) e.0) as (λ b. is_some (cond b (Some e.1) (lookup (is_at (order q)) es)) ≡ true) [ true ↦ refl | false ↦ some ])),
  )

  -- no row comes before the start
  pub rows_past : (start : Bound K) (m : K → Option C) (rows : List (K × C)) → AreRowsFrom order start m rows → AllByRecursion (λ e. is_from_start order start e.0 ≡ true) rows
  rows_past start m rows are = each_found (is_from_start order start) rows (λ q some.
      ⊎_elim
      (λ from. from)
      (λ before. absurd (both_ways _ (ap is_some (are.each q ∙ ap (λ b. cond b (m q) None) before)) some))
      (cases_Bool (is_from_start order start q)))
