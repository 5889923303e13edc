-- A draft that was written is taken again as it was, so that changes can be made in it one list after the other.
use Rattle.std.proofs.Common.{◌≡◌, ◌∙◌, ◌++◌, ℕ, T, List, [], ◌∷◌, map, Option, Some, refl, sym, ap, subst, append-nil, append_assoc}
use Rattle.std.specs.declared.cmp.Ordering.{Ordering}
use Rattle.std.specs.declared.cmp.Ordering.TheVariants.{Less, Equal, Greater}
use Rattle.std.specs.Ordering.{is_lt, match_ordering, nat_cmp, ordering_reverse}
use Rattle.std.specs.Cmp.{IsTotalOrder}
use Rattle.std.specs.Cmp.Lexicographic.{nat_list_cmp_total, slice_cmp}
use Rattle.std.proofs.lemmas.Cmp.{nat_cmp_total}
use Rattle.std.specs.BTreeMap.{insert_entry}
use Rattle.std.specs.FinMap.Entries.{below_all, is_sorted}
use Rattle.wtf_imagefmt.specs.Rows.{ValueRow}
use Rattle.wtf_changes.specs.Drafts.{DraftRows, file_taken, file_written, node_taken, path_written, region_written, regions_taken, set_all, taken, value_taken}
use Rattle.wtf_changes.specs.Drafts.{written}
use Rattle.wtf_changes.proofs.Drafts.{IsSortedDraft}
use Rattle.wtf_changes.proofs.Files.{Entries, InOrder, inode_total}
use Rattle.wtf_changes.proofs.Sets.{first, second}

less_of : (r : Ordering) → T (is_lt r) → r ≡ Less
less_of Less h = refl
less_of Equal h = absurd h
less_of Greater h = absurd h

abbrev some_entry : {K X : Type 0} → K × X → K × Option X
some_entry e = (e.0, Some e.1)

module _ {K X : Type 0} (R : K → K → Ordering) (o : IsTotalOrder R) where
  below_in : (q : K) (ps : List (K × X)) (e : K × X) (es : List (K × X)) → T (below_all R q (ps ++ (e ∷ es))) → T (is_lt (R q e.0))
  below_in q [] e es h = first _ _ h
  below_in q (p ∷ ps) e es h = below_in q ps e es (second _ _ h)

  insert_last : (ps : List (K × X)) (e : K × X) (es : List (K × X)) → T (is_sorted R (ps ++ (e ∷ es))) → insert_entry R ps e.0 e.1 ≡ ps ++ e ∷ []
  insert_last [] e es h = refl
  insert_last (p ∷ ps) e es h =
      ap (λ (r : Ordering). match_ordering r ((e.0, e.1) ∷ p ∷ ps) ((p.0, e.1) ∷ ps) (p ∷ insert_entry R ps e.0 e.1))
      (o.antisymm e.0 p.0 ∙ ap ordering_reverse (less_of (R p.0 e.0) (below_in p.0 ps e es (first _ _ h))))
      ∙ ap (λ (l : List (K × X)). p ∷ l) (insert_last ps e es (second _ _ h))

  again_from : (ps es : List (K × X)) → T (is_sorted R (ps ++ es)) → set_all R ps (map some_entry es) ≡ ps ++ es
  again_from ps [] h = sym (append-nil ps)
  again_from ps (e ∷ es) h =
      ap (λ (l : List (K × X)). set_all R l (map some_entry es)) (insert_last ps e es h)
      ∙ again_from (ps ++ e ∷ []) es (subst (λ (l : List (K × X)). T (is_sorted R l)) (sym (append_assoc ps (e ∷ []) es)) h)
      ∙ append_assoc ps (e ∷ []) es

  -- entries in order are set again one by one
  set_again : (es : List (K × X)) (cs : List (K × Option X)) → cs ≡ map some_entry es → T (is_sorted R es) → set_all R [] cs ≡ es
  set_again es cs same h = ap (λ (l : List (K × Option X)). set_all R [] l) same ∙ again_from [] es h

same_map : {A B C : Type 0} (f : B → C) (g : A → B) (h : A → C) → ((a : A) → f (g a) ≡ h a) → (xs : List A) → map f (map g xs) ≡ map h xs
same_map f g h each [] = refl
same_map {C = C} f g h each (x ∷ xs) = λ k. each x k ∷ same_map f g h each xs k

regions_again : (es : List (ℕ × ValueRow)) → T (is_sorted nat_cmp es) → regions_taken (map region_written es) ≡ es
regions_again es h = set_again nat_cmp nat_cmp_total es _ (same_map value_taken region_written some_entry (λ e. refl) es) h

files_same : (es : Entries) → InOrder es → map file_taken (map file_written es) ≡ map some_entry es
files_same [] h = refl
files_same (e ∷ es) h = λ k. (e.0, Some (record { last = e.1.last; regions = regions_again e.1.regions h.0 k })) ∷ files_same es h.1 k

pub taken_again : (d : DraftRows) → IsSortedDraft d → taken (written d) ≡ d
taken_again d h =
    let paths : (taken (written d)).paths ≡ d.paths =
    set_again (slice_cmp nat_cmp) nat_list_cmp_total d.paths _ (same_map node_taken path_written some_entry (λ e. refl) d.paths) h.paths in
    let files : (taken (written d)).files ≡ d.files = set_again _ inode_total d.files _ (files_same d.files h.files.regions) h.files.keys in
    λ k. record { header = d.header; paths = paths k; files = files k }
