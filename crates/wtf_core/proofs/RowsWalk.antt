-- A walk over the paths of a store, row by row.
use Rattle.wtf_core.proofs.Common.{cases_Bool, both_ways, map-append, Ordering, Less, Equal, Greater, is_lt, is_eq, eq_by_cmp, ordering_reverse, tied_itself}
use Rattle.wtf_core.proofs.Common.{nat_list_cmp_total, slice_cmp-IsAntisymmetric, nat_cmp-IsAntisymmetric, find, is_sorted, find-append, last_seen, value_seen}
use Rattle.wtf_core.proofs.Common.{has_any, Store, versions_of, is_past, is_before, has_version, IsNextKey, IsReached, reached, Row, key_cmp, same_key, Key}
use Rattle.wtf_core.proofs.Common.{Path, Value, key_total, path_cmp, map_now, ShownPaths, shown_value, shown_at, shown_below, with_row, entries_of, IsShown}
use Rattle.wtf_core.proofs.Common.{◌≡◌, ℕ, true, false, cond, T, List, [], ◌∷◌, Option, None, Some, is_some, refl, sym, ap, subst, ◌∙◌, ⊎_elim}
use Rattle.wtf_kv.proofs.KeyLaws.{between}
use Rattle.wtf_core.proofs.RowsSorted.{is_sorted-push}

less_is : (o : Ordering) → is_lt o ≡ true → o ≡ Less
less_is Less e = refl
less_is Equal e = cc
less_is Greater e = cc

equal_is : (o : Ordering) → is_eq o ≡ true → o ≡ Equal
equal_is Less e = cc
equal_is Equal e = refl
equal_is Greater e = cc

same_path : (p q : List ℕ) → path_cmp p q ≡ Equal → p ≡ q
same_path = slice_cmp-IsAntisymmetric nat_cmp-IsAntisymmetric

no_versions : (vs : List (ℕ × Option Value)) (n : ℕ) → has_any vs ≡ false → value_seen (last_seen n vs) ≡ None
no_versions [] n h = refl
no_versions (v ∷ vs) n h = cc

-- one more row, of a path that no row has
module _ (rows : List Row) (k : List ℕ) (fresh : find path_cmp k (entries_of rows) ≡ None) where
  -- where the path ties with q there is nothing of q so far
  tied_none : (q : List ℕ) → find path_cmp q (entries_of rows) ≡ cond (eq_by_cmp path_cmp q k) None (find path_cmp q (entries_of rows))
  tied_none q = ⊎_elim
      (λ tie. ap (λ p. find path_cmp p (entries_of rows)) (same_path q k (equal_is _ tie)) ∙ fresh
      ∙ sym (ap (λ b. cond b None (find path_cmp q (entries_of rows))) tie))
      (λ off. sym (ap (λ b. cond b None (find path_cmp q (entries_of rows))) off))
      (cases_Bool (eq_by_cmp path_cmp q k))

  pub find-with_row : (o : Option (Option ℕ)) (q : List ℕ)
      → find path_cmp q (entries_of (with_row rows k o)) ≡ cond (eq_by_cmp path_cmp q k) o (find path_cmp q (entries_of rows))
  find-with_row None q = tied_none q
  find-with_row (Some len) q =
      ap (find path_cmp q) (map-append (λ (r : Row). (r.path, r.len)) rows (record { path = k; len = len } ∷ []))
      ∙ find-append path_cmp nat_list_cmp_total (entries_of rows) k len q fresh

  pub is_sorted-with_row : (o : Option (Option ℕ)) → ((x : List ℕ) → is_some (find path_cmp x (entries_of rows)) ≡ true → path_cmp x k ≡ Less)
      → T (is_sorted path_cmp (entries_of rows)) → T (is_sorted path_cmp (entries_of (with_row rows k o)))
  is_sorted-with_row None up h = h
  is_sorted-with_row (Some len) up h =
      subst (λ es. T (is_sorted path_cmp es)) (sym (map-append (λ (r : Row). (r.path, r.len)) rows (record { path = k; len = len } ∷ [])))
      (is_sorted-push path_cmp nat_list_cmp_total (entries_of rows) k len up h)

-- A walk has come to a key that has a version, or to its end: the rows are those of the paths below it.
pub record Walked (b : ℕ) (kv : Store Key Value) (at : Option Key) (rows : List Row) : Type 0 where
  pub so_far : IsShown (shown_below at (shown_at b (map_now kv))) rows
  pub has_version : IsReached key_cmp kv at

module _ (b : ℕ) (kv : Store Key Value) where
  abbrev shown : ShownPaths
  shown = shown_at b (map_now kv)

  -- a path without a version is not shown
  unseen : (q : List ℕ) → has_version key_cmp kv (Path q) ≡ false → shown q ≡ None
  unseen q h = ap (shown_value b (map_now kv)) (no_versions (versions_of key_cmp kv (Path q)) kv.number h)

  -- nor is one between a key and the next
  skipped : (after next : Option Key) (q : List ℕ) → IsNextKey key_cmp kv after next → is_past key_cmp after (Path q) ≡ true → shown_below next shown q ≡ None
  skipped after next q is past = ⊎_elim
      (λ behind. ap (λ t. cond t (shown q) None) behind ∙ unseen q (between key_cmp key_total same_key kv after next (Path q) is past behind))
      (λ off. ap (λ t. cond t (shown q) None) off)
      (cases_Bool (is_before key_cmp next (Path q)))

  pub walk_begins : (next : Option Key) → IsNextKey key_cmp kv None next → Walked b kv next []
  walk_begins next is = record {
    so_far = record { sorted = tt; each = λ q. sym (skipped None next q is refl) };
    has_version = reached key_cmp key_total same_key kv None next is;
  }

  -- what lies at a path, or before it, lies before the next key
  before_next : (k q : List ℕ) (next : Option Key) → IsNextKey key_cmp kv (Some (Path k)) next → path_cmp q k ≡ Less → is_before key_cmp next (Path q) ≡ true
  before_next k q None is lt = refl
  before_next k q (Some n) is lt = ap is_lt (key_total.trans (Path q) (Path k) n lt (less_is _ is.0))

  at_next : (k : List ℕ) (next : Option Key) → IsNextKey key_cmp kv (Some (Path k)) next → is_before key_cmp next (Path k) ≡ true
  at_next k None is = refl
  at_next k (Some n) is = is.0

  module _ (k : List ℕ) (rows : List Row) (so_far : IsShown (shown_below (Some (Path k)) shown) rows) where
    fresh : find path_cmp k (entries_of rows) ≡ None
    fresh = so_far.each k ∙ ap (λ o. cond (is_lt o) (shown k) None) (tied_itself nat_list_cmp_total k)

    below : (x : List ℕ) → is_some (find path_cmp x (entries_of rows)) ≡ true → path_cmp x k ≡ Less
    below x found = ⊎_elim
        (λ lt. less_is _ lt)
        (λ off. absurd (both_ways _ (ap is_some (so_far.each x ∙ ap (λ t. cond t (shown x) None) off)) found))
        (cases_Bool (is_lt (path_cmp x k)))

    module _ (next : Option Key) (is : IsNextKey key_cmp kv (Some (Path k)) next) where
      -- by how a path compares with the one whose row is new
      by_place : (q : List ℕ) (o : Ordering) → path_cmp q k ≡ o → cond (is_eq o) (shown k) (cond (is_lt o) (shown q) None) ≡ shown_below next shown q
      by_place q Less e = sym (ap (λ t. cond t (shown q) None) (before_next k q next is e))
      by_place q Equal e = let same : q ≡ k = same_path q k e in
          sym (ap (shown_below next shown) same ∙ ap (λ t. cond t (shown k) None) (at_next k next is))
      by_place q Greater e = sym (skipped (Some (Path k)) next q is (ap is_lt (nat_list_cmp_total.antisymm k q ∙ ap ordering_reverse e)))

      pub walk_goes_on : Walked b kv next (with_row rows k (shown k))
      walk_goes_on = record {
        so_far = record {
          sorted = is_sorted-with_row rows k fresh (shown k) below so_far.sorted;
          each = λ q. find-with_row rows k fresh (shown k) q
              ∙ ap (cond (eq_by_cmp path_cmp q k) (shown k)) (so_far.each q)
              ∙ by_place q (path_cmp q k) refl;
        };
        has_version = reached key_cmp key_total same_key kv (Some (Path k)) next is;
      }
