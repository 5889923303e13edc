-- Tests of each byte of a list.
use Rattle.std.proofs.Common.{◌≡◌, ℕ, zero, suc, ◌<◌, Bool, true, List, [], ◌∷◌, Option, None, Some, refl, ap, ◌∙◌, arith}
use Rattle.std.specs.List.{All, list_all}
use Rattle.std.proofs.lemmas.Bool.{and_parts, and_from}
use Rattle.std.proofs.lemmas.List.Elements.{All-nil, All-cons, All-head, All-tail}
use Rattle.wtf_overlay.specs.Origin.{Place, part_origin}
use Rattle.wtf_overlay.specs.declared.part.Entry.{Entry}
use Rattle.wtf_meta.specs.Bytes.{EntryBytes}
use Rattle.wtf_meta.specs.Contents.{has_first, entry_has, list_has}

module _ (P : List Place → Bool) where
  first_from : (f : ℕ → List Place) (n : ℕ) → has_first P f n ≡ true → (i : ℕ) → i < n → P (f i) ≡ true
  first_from f zero h i below = absurd (omega (arith, below))
  first_from f (suc n) h zero below = (and_parts (P (f 0)) (has_first P (λ i. f (suc i)) n) h).0
  first_from f (suc n) h (suc i) below = first_from (λ i. f (suc i)) n (and_parts (P (f 0)) (has_first P (λ i. f (suc i)) n) h).1 i (omega (arith, below))

  first_to : (f : ℕ → List Place) (n : ℕ) → ((i : ℕ) → i < n → P (f i) ≡ true) → has_first P f n ≡ true
  first_to f zero h = refl
  first_to f (suc n) h = and_from (P (f 0)) (has_first P (λ i. f (suc i)) n) (h 0 (omega arith))
      (first_to (λ i. f (suc i)) n (λ i below. h (suc i) (omega (arith, below))))

  -- entries that pass the test have only such bytes
  pub entries_from : (es : List Entry) → list_all (entry_has P) es ≡ true → All (EntryBytes P) es
  entries_from [] h = All-nil (EntryBytes P)
  entries_from (e ∷ es) h =
      let both = and_parts (entry_has P e) (list_all (entry_has P) es) h in
      All-cons (EntryBytes P) e es (first_from (part_origin e.part) e.len both.0) (entries_from es both.1)

  -- and those that have only such bytes pass it
  pub entries_to : (es : List Entry) → All (EntryBytes P) es → list_all (entry_has P) es ≡ true
  entries_to [] h = refl
  entries_to (e ∷ es) h =
      and_from (entry_has P e) (list_all (entry_has P) es) (first_to (part_origin e.part) e.len (All-head (EntryBytes P) e es h))
      (entries_to es (All-tail (EntryBytes P) e es h))

  -- the same of a list that may be missing
  pub has_list : (o : Option (List Entry)) → list_has P o ≡ true → (es : List Entry) × (o ≡ Some es) × All (EntryBytes P) es
  has_list None h = absurd (cc)
  has_list (Some es) h = (es, refl, entries_from es h)

  pub list_has-true : (o : Option (List Entry)) (es : List Entry) → o ≡ Some es → All (EntryBytes P) es → list_has P o ≡ true
  list_has-true o es is h = ap (list_has P) is ∙ entries_to es h
