-- A walk over the keys of a store that changed, by which they are listed.
use Rattle.std.proofs.Common.{◌≡◌, ◌≢◌, ℕ, ◌<◌, Bool, true, false, cond, T, List, [], ◌∷◌, ◌++◌, map, Option, None, Some, is_some, refl, sym, ap, subst, ◌∙◌}
use Rattle.std.proofs.Common.{⊎_elim}
use Rattle.std.proofs.lemmas.Bool.{cases_Bool, both_ways}
use Rattle.std.proofs.lemmas.List.{map-append}
use Rattle.std.specs.declared.cmp.Ordering.{Ordering}
use Rattle.std.specs.declared.cmp.Ordering.TheVariants.{Less, Equal, Greater}
use Rattle.std.specs.Ordering.{is_lt, is_eq, eq_by_cmp, ordering_reverse, nat_cmp}
use Rattle.std.specs.Cmp.{IsTotalOrder, tied_itself}
use Rattle.std.specs.Cmp.Lexicographic.{slice_cmp, nat_list_cmp_total}
use Rattle.std.specs.FinMap.{slice_cmp-IsAntisymmetric, nat_cmp-IsAntisymmetric}
use Rattle.std.specs.FinMap.Entries.{find, is_sorted, below_all, find-append}
use Rattle.wtf_base.specs.declared.ids.InodeId.{InodeId}
use Rattle.wtf_kv.specs.Stores.{Store}
use Rattle.wtf_kv.specs.Order.{is_past, is_before, is_changed, IsNextChanged, left_from}
use Rattle.wtf_kv.proofs.KeyLaws.{between_changed, left_changed}
use Rattle.wtf_values.specs.Keys.{key_cmp, inode_cmp, same_key, same_inode}
use Rattle.wtf_values.specs.declared.key.Key.{Key}
use Rattle.wtf_values.specs.declared.key.Key.TheVariants.{Path, Dir, Inode, Region, Links}
use Rattle.wtf_values.specs.declared.value.Node.{Node}
use Rattle.wtf_values.specs.declared.value.Value.{Value}
use Rattle.wtf_values.proofs.KeyLaws.{key_total}
use Rattle.wtf_imagefmt.specs.Lookups.{Plain, place_cmp}
use Rattle.wtf_imagefmt.specs.Rows.{ValueRow}
use Rattle.wtf_imagefmt.specs.Saving.{node_now, last_now}
use Rattle.wtf_imagefmt.specs.Shapes.{ascends}
use Rattle.wtf_imagefmt.specs.Shown.{shown}
use Rattle.wtf_changes.specs.declared.records.PathChange.{PathChange}
use Rattle.wtf_changes.specs.declared.records.FileChange.{FileChange}
use Rattle.wtf_changes.specs.Rows.{RegionChangeRow, ChangeRows}
use Rattle.wtf_changes.specs.Shapes.{path_before, file_before, region_before}
use Rattle.wtf_changes.specs.Texts.{changes_text}
use Rattle.wtf_changes.specs.Writing.{AreWide}
use Rattle.wtf_changes.specs.Drafts.{node_change}
use Rattle.wtf_changes.specs.Since.{last_change, value_change, value_now, due, AreChangesOf, IsChangesOf}
use Rattle.wtf_changes.specs.Walk.{with_key, AreRising, none_yet, AreInOrder}
use Rattle.wtf_changes.proofs.Sets.{both, first, second, tied_is, rows-rise}
use Rattle.wtf_changes.proofs.Files.{inode_total, place_total}

less_is : (o : Ordering) → is_lt o ≡ true → o ≡ Less
less_is Less e = refl
less_is Equal e = cc
less_is Greater e = cc

holds : (b : Bool) → b ≡ true → T b
holds b e = subst T (sym e) tt

-- ---- one entry more

module _ {K X : Type 0} (R : K → K → Ordering) where
  below-push : (x k : K) (v : X) (es : List (K × X)) → R x k ≡ Less → T (below_all R x es) → T (below_all R x (es ++ (k, v) ∷ []))
  below-push x k v [] lt h = both _ _ (subst (λ o. T (is_lt o)) (sym lt) tt) tt
  below-push x k v (e ∷ es) lt h = both _ _ (first _ _ h) (below-push x k v es lt (second _ _ h))

  module _ (total : IsTotalOrder R) where
    behind : (e : K × X) (es : List (K × X)) (x : K) → T (below_all R e.0 es) → is_some (find R x es) ≡ true → is_some (find R x (e ∷ es)) ≡ true
    behind e es x h some = elim (eq_by_cmp R x e.0) as (λ b. is_some (cond b (Some e.1) (find R x es)) ≡ true) [ true ↦ refl | false ↦ some ]

    sorted-push : (es : List (K × X)) (k : K) (v : X) → ((x : K) → is_some (find R x es) ≡ true → R x k ≡ Less) → T (is_sorted R es)
        → T (is_sorted R (es ++ (k, v) ∷ []))
    sorted-push [] k v up h = tt
    sorted-push (e ∷ es) k v up h =
        both _ _ (below-push e.0 k v es (up e.0 (ap (λ o. is_some (cond (is_eq o) (Some e.1) (find R e.0 es))) (tied_itself total e.0))) (first _ _ h))
        (sorted-push es k v (λ x some. up x (behind e es x (first _ _ h) some)) (second _ _ h))

-- keys of one kind
pub record Kind (K : Type 0) : Type 0 where
  pub order : K → K → Ordering
  pub total : IsTotalOrder order
  pub exact : (a b : K) → order a b ≡ Equal → a ≡ b
  pub key : K → Key
  pub alike : (a b : K) → key_cmp (key a) (key b) ≡ order a b

abbrev paths : Kind (List ℕ)
paths = record {
  order = slice_cmp nat_cmp;
  total = nat_list_cmp_total;
  exact = slice_cmp-IsAntisymmetric nat_cmp-IsAntisymmetric;
  key = Path;
  alike = λ a b. refl;
}

abbrev files : Kind InodeId
files = record { order = inode_cmp; total = inode_total; exact = same_inode; key = Inode; alike = λ a b. refl }

pub same_place : (a b : InodeId × ℕ) → place_cmp a b ≡ Equal → a ≡ b
same_place a b e =
    let same : Region a.0 a.1 ≡ Region b.0 b.1 = same_key (Region a.0 a.1) (Region b.0 b.1) e in
    let inode : a.0 ≡ b.0 = cc in
    let number : a.1 ≡ b.1 = cc in
    λ i. (inode i, number i)

abbrev regions : Kind (InodeId × ℕ)
regions = record { order = place_cmp; total = place_total; exact = same_place; key = λ a. Region a.0 a.1; alike = λ a b. refl }

abbrev with_due : {K X : Type 0} → List (K × X) → K → Option X → List (K × X)
with_due es k None = es
with_due es k (Some v) = es ++ (k, v) ∷ []

module _ (kv : Store Key Value) (since : ℕ) {K X : Type 0} (kind : Kind K) (now : K → Option X)
    (unseen : (k : K) → is_changed key_cmp kv since (kind.key k) ≡ false → now k ≡ None) where
  -- what is due of the keys that lie before one
  pub record Upto (at : Option Key) (es : List (K × X)) : Type 0 where
    pub sorted : T (is_sorted kind.order es)
    pub each : (k : K) → find kind.order k es ≡ cond (is_before key_cmp at (kind.key k)) (now k) None

  skipped : (after next : Option Key) (k : K) → IsNextChanged key_cmp kv since after next → is_past key_cmp after (kind.key k) ≡ true
      → cond (is_before key_cmp next (kind.key k)) (now k) None ≡ None
  skipped after next k is past = ⊎_elim
      (λ behind. ap (λ t. cond t (now k) None) behind ∙ unseen k (between_changed key_cmp key_total same_key kv since after next (kind.key k) is past behind))
      (λ off. ap (λ t. cond t (now k) None) off)
      (cases_Bool (is_before key_cmp next (kind.key k)))

  pub begins : (next : Option Key) → IsNextChanged key_cmp kv since None next → Upto next []
  begins next is = record { sorted = tt; each = λ k. sym (skipped None next k is refl) }

  -- what lies before a key lies before the next one, and so does the key
  before_next : (q p : Key) (next : Option Key) → IsNextChanged key_cmp kv since (Some q) next → key_cmp p q ≡ Less → is_before key_cmp next p ≡ true
  before_next q p None is lt = refl
  before_next q p (Some n) is lt = ap is_lt (key_total.trans p q n lt (less_is _ is.0))

  at_next : (q : Key) (next : Option Key) → IsNextChanged key_cmp kv since (Some q) next → is_before key_cmp next q ≡ true
  at_next q None is = refl
  at_next q (Some n) is = is.0

  -- by how a key of the kind compares with the one that the walk is at
  by_place : (q : Key) (next : Option Key) → IsNextChanged key_cmp kv since (Some q) next → (k : K) (o : Ordering) → key_cmp (kind.key k) q ≡ o
      → cond (is_lt o) (now k) (cond (is_eq o) (now k) None) ≡ cond (is_before key_cmp next (kind.key k)) (now k) None
  by_place q next is k Less e = sym (ap (λ t. cond t (now k) None) (before_next q (kind.key k) next is e))
  by_place q next is k Equal e = sym (ap (λ t. cond t (now k) None)
      (subst (λ p. is_before key_cmp next p ≡ true) (sym (same_key (kind.key k) q e)) (at_next q next is)))
  by_place q next is k Greater e = sym (skipped (Some q) next k is (ap is_lt (key_total.antisymm q (kind.key k) ∙ ap ordering_reverse e)))

  -- a key of another kind
  pub passes : (q : Key) (next : Option Key) (es : List (K × X)) → ((k : K) → key_cmp (kind.key k) q ≢ Equal) → IsNextChanged key_cmp kv since (Some q) next
      → Upto (Some q) es → Upto next es
  passes q next es apart is so_far = record {
    sorted = so_far.sorted;
    each = λ k. so_far.each k ∙ off (key_cmp (kind.key k) q) (apart k) (now k) ∙ by_place q next is k (key_cmp (kind.key k) q) refl;
  }
    where
      off : (o : Ordering) → o ≢ Equal → (n : Option X) → cond (is_lt o) n None ≡ cond (is_lt o) n (cond (is_eq o) n None)
      off Less h n = refl
      off Equal h n = absurd (h refl)
      off Greater h n = refl

  module _ (k : K) (es : List (K × X)) (so_far : Upto (Some (kind.key k)) es) where
    fresh : find kind.order k es ≡ None
    fresh = so_far.each k ∙ ap (λ o. cond (is_lt o) (now k) None) (kind.alike k k ∙ tied_itself kind.total k)

    below : (x : K) → is_some (find kind.order x es) ≡ true → kind.order x k ≡ Less
    below x found = ⊎_elim
        (λ lt. sym (kind.alike x k) ∙ less_is _ lt)
        (λ off. absurd (both_ways _ (ap is_some (so_far.each x ∙ ap (λ t. cond t (now x) None) off)) found))
        (cases_Bool (is_lt (key_cmp (kind.key x) (kind.key k))))

    due-sorted : (o : Option X) → T (is_sorted kind.order (with_due es k o))
    due-sorted None = so_far.sorted
    due-sorted (Some v) = sorted-push kind.order kind.total es k v below so_far.sorted

    due-found : (o : Option X) (x : K) → find kind.order x (with_due es k o) ≡ cond (is_eq (kind.order x k)) o (find kind.order x es)
    due-found None x = ⊎_elim
        (λ t. ap (λ y. find kind.order y es) (kind.exact x k (tied_is _ t)) ∙ fresh ∙ sym (ap (λ b. cond b None (find kind.order x es)) t))
        (λ t. sym (ap (λ b. cond b None (find kind.order x es)) t))
        (cases_Bool (is_eq (kind.order x k)))
    due-found (Some v) x = find-append kind.order kind.total es k v x fresh

    -- a key of the kind, with what is due of it
    pub adds : (next : Option Key) → IsNextChanged key_cmp kv since (Some (kind.key k)) next → Upto next (with_due es k (now k))
    adds next is = record {
      sorted = due-sorted (now k);
      each = λ x.
          due-found (now k) x ∙ ap (λ o. cond (is_eq (kind.order x k)) (now k) o) (so_far.each x)
          ∙ one x (kind.order x k) refl ∙ by_place (kind.key k) next is x (kind.order x k) (kind.alike x k);
    }
      where
        one : (x : K) (o : Ordering) → kind.order x k ≡ o
            → cond (is_eq o) (now k) (cond (is_lt (key_cmp (kind.key x) (kind.key k))) (now x) None) ≡ cond (is_lt o) (now x) (cond (is_eq o) (now x) None)
        one x Less e = ap (λ r. cond (is_lt r) (now x) None) (kind.alike x k ∙ e)
        one x Equal e = ap now (sym (kind.exact x k e))
        one x Greater e = ap (λ r. cond (is_lt r) (now x) None) (kind.alike x k ∙ e)

-- ---- the changes of a store

module _ (kv : Store Key Value) (since : ℕ) where
  -- what changes have of a key, if its version lies above the number
  abbrev key_added : Key → ChangeRows → ChangeRows
  key_added q x = cond (is_changed key_cmp kv since q) (with_key x q (shown kv q)) x

  never : {X : Type 0} (q : Key) (now : Option X) → is_changed key_cmp kv since q ≡ false → due kv since q now ≡ None
  never q now h = ap (λ b. cond b (Some now) None) h

  abbrev path_due : List ℕ → Option (Option Node)
  path_due p = due kv since (Path p) (node_now (shown kv (Path p)))

  abbrev file_due : InodeId → Option (Option ℕ)
  file_due i = due kv since (Inode i) (last_now (shown kv (Inode i)))

  abbrev region_due : InodeId × ℕ → Option (Option ValueRow)
  region_due a = due kv since (Region a.0 a.1) (value_now (shown kv (Region a.0 a.1)))

  pub no_path : (p : List ℕ) → is_changed key_cmp kv since (Path p) ≡ false → path_due p ≡ None
  no_path p h = never (Path p) (node_now (shown kv (Path p))) h

  pub no_file : (i : InodeId) → is_changed key_cmp kv since (Inode i) ≡ false → file_due i ≡ None
  no_file i h = never (Inode i) (last_now (shown kv (Inode i))) h

  pub no_region : (a : InodeId × ℕ) → is_changed key_cmp kv since (Region a.0 a.1) ≡ false → region_due a ≡ None
  no_region a h = never (Region a.0 a.1) (value_now (shown kv (Region a.0 a.1))) h

  -- it is a key that changed, if it is one
  abbrev pub IsAt : Option Key → Type 0
  IsAt None = Unit {0}
  IsAt (Some q) = is_changed key_cmp kv since q ≡ true

  is_at : (after next : Option Key) → IsNextChanged key_cmp kv since after next → IsAt next
  is_at after None is = tt
  is_at after (Some q) is = is.1

  -- a walk has come to a key that changed, or to its end: what is due of the keys before it is listed
  pub record Walked (at : Option Key) (x : ChangeRows) : Type 0 where
    pub paths_are : Upto kv since paths path_due no_path at (map node_change x.paths)
    pub files_are : Upto kv since files file_due no_file at (map last_change x.files)
    pub regions_are : Upto kv since regions region_due no_region at (map value_change x.regions)
    pub at_changed : IsAt at

  pub walk_begins : (x : ChangeRows) (next : Option Key) → x.paths ≡ [] → x.files ≡ [] → x.regions ≡ []
      → IsNextChanged key_cmp kv since None next → Walked next x
  walk_begins x next p f r is = record {
    paths_are = subst (λ l. Upto kv since paths path_due no_path next (map node_change l)) (sym p) (begins kv since paths path_due no_path next is);
    files_are = subst (λ l. Upto kv since files file_due no_file next (map last_change l)) (sym f) (begins kv since files file_due no_file next is);
    regions_are = subst (λ l. Upto kv since regions region_due no_region next (map value_change l)) (sym r)
        (begins kv since regions region_due no_region next is);
    at_changed = is_at None next is;
  }

  path_more : (x : ChangeRows) (p : List ℕ) (b : Bool) (n : Option Node)
      → map node_change (cond b (x.paths ++ record { path = p; node = n } ∷ []) x.paths) ≡ with_due (map node_change x.paths) p (cond b (Some n) None)
  path_more x p true n = map-append node_change x.paths (record { path = p; node = n } ∷ [])
  path_more x p false n = refl

  file_more : (x : ChangeRows) (i : InodeId) (b : Bool) (n : Option ℕ)
      → map last_change (cond b (x.files ++ record { inode = i; last = n } ∷ []) x.files) ≡ with_due (map last_change x.files) i (cond b (Some n) None)
  file_more x i true n = map-append last_change x.files (record { inode = i; last = n } ∷ [])
  file_more x i false n = refl

  region_more : (x : ChangeRows) (i : InodeId) (r : ℕ) (b : Bool) (v : Option ValueRow)
      → map value_change (cond b (x.regions ++ record { inode = i; number = r; value = v } ∷ []) x.regions)
      ≡ with_due (map value_change x.regions) (i, r) (cond b (Some v) None)
  region_more x i r true v = map-append value_change x.regions (record { inode = i; number = r; value = v } ∷ [])
  region_more x i r false v = refl

  abbrev is_due : Key → Bool
  is_due q = is_changed key_cmp kv since q

  module _ (x : ChangeRows) (next : Option Key) where
    -- the fields of a choice between changes
    paths_by : (b : Bool) (y : ChangeRows) → (cond b y x).paths ≡ cond b y.paths x.paths
    paths_by true y = refl
    paths_by false y = refl

    files_by : (b : Bool) (y : ChangeRows) → (cond b y x).files ≡ cond b y.files x.files
    files_by true y = refl
    files_by false y = refl

    regions_by : (b : Bool) (y : ChangeRows) → (cond b y x).regions ≡ cond b y.regions x.regions
    regions_by true y = refl
    regions_by false y = refl

    same_by : {A : Type 0} (b : Bool) (a : A) → cond b a a ≡ a
    same_by true a = refl
    same_by false a = refl

    module _ (q : Key) (walked : Walked (Some q) x) (is : IsNextChanged key_cmp kv since (Some q) next) where
      abbrev more : ChangeRows
      more = key_added q x

      stay_paths : ((p : List ℕ) → key_cmp (Path p) q ≢ Equal) → more.paths ≡ x.paths → Upto kv since paths path_due no_path next (map node_change more.paths)
      stay_paths apart same = subst (λ l. Upto kv since paths path_due no_path next (map node_change l)) (sym same)
          (passes kv since paths path_due no_path q next (map node_change x.paths) apart is walked.paths_are)

      stay_files : ((i : InodeId) → key_cmp (Inode i) q ≢ Equal) → more.files ≡ x.files → Upto kv since files file_due no_file next (map last_change more.files)
      stay_files apart same = subst (λ l. Upto kv since files file_due no_file next (map last_change l)) (sym same)
          (passes kv since files file_due no_file q next (map last_change x.files) apart is walked.files_are)

      stay_regions : ((a : InodeId × ℕ) → key_cmp (Region a.0 a.1) q ≢ Equal) → more.regions ≡ x.regions
          → Upto kv since regions region_due no_region next (map value_change more.regions)
      stay_regions apart same =
          subst (λ l. Upto kv since regions region_due no_region next (map value_change l)) (sym same)
          (passes kv since regions region_due no_region q next (map value_change x.regions) apart is walked.regions_are)

      there : IsAt next
      there = is_at (Some q) next is

    pub walk_goes_on : (q : Key) → Walked (Some q) x → IsNextChanged key_cmp kv since (Some q) next → Walked next (key_added q x)
    walk_goes_on (Path p) walked is = record {
      paths_are = subst (λ l. Upto kv since paths path_due no_path next l)
          (sym (ap (map node_change) (paths_by (is_due (Path p)) (with_key x (Path p) (shown kv (Path p))))
          ∙ path_more x p (is_due (Path p)) (node_now (shown kv (Path p)))))
          (adds kv since paths path_due no_path p (map node_change x.paths) walked.paths_are next is);
      files_are = stay_files (Path p) walked is (λ i e. absurd (cc))
          (files_by (is_due (Path p)) (with_key x (Path p) (shown kv (Path p))) ∙ same_by (is_due (Path p)) x.files);
      regions_are = stay_regions (Path p) walked is (λ a e. absurd (cc))
          (regions_by (is_due (Path p)) (with_key x (Path p) (shown kv (Path p))) ∙ same_by (is_due (Path p)) x.regions);
      at_changed = there (Path p) walked is;
    }
    walk_goes_on (Dir d) walked is = record {
      paths_are = stay_paths (Dir d) walked is (λ p e. absurd (cc)) (ap (λ (y : ChangeRows). y.paths) (same_by (is_due (Dir d)) x));
      files_are = stay_files (Dir d) walked is (λ i e. absurd (cc)) (ap (λ (y : ChangeRows). y.files) (same_by (is_due (Dir d)) x));
      regions_are = stay_regions (Dir d) walked is (λ a e. absurd (cc)) (ap (λ (y : ChangeRows). y.regions) (same_by (is_due (Dir d)) x));
      at_changed = there (Dir d) walked is;
    }
    walk_goes_on (Links k) walked is = record {
      paths_are = stay_paths (Links k) walked is (λ p e. absurd (cc)) (ap (λ (y : ChangeRows). y.paths) (same_by (is_due (Links k)) x));
      files_are = stay_files (Links k) walked is (λ i e. absurd (cc)) (ap (λ (y : ChangeRows). y.files) (same_by (is_due (Links k)) x));
      regions_are = stay_regions (Links k) walked is (λ a e. absurd (cc)) (ap (λ (y : ChangeRows). y.regions) (same_by (is_due (Links k)) x));
      at_changed = there (Links k) walked is;
    }
    walk_goes_on (Inode i) walked is = record {
      paths_are = stay_paths (Inode i) walked is (λ p e. absurd (cc))
          (paths_by (is_due (Inode i)) (with_key x (Inode i) (shown kv (Inode i))) ∙ same_by (is_due (Inode i)) x.paths);
      files_are = subst (λ l. Upto kv since files file_due no_file next l)
          (sym (ap (map last_change) (files_by (is_due (Inode i)) (with_key x (Inode i) (shown kv (Inode i))))
          ∙ file_more x i (is_due (Inode i)) (last_now (shown kv (Inode i)))))
          (adds kv since files file_due no_file i (map last_change x.files) walked.files_are next is);
      regions_are = stay_regions (Inode i) walked is (λ a e. absurd (cc))
          (regions_by (is_due (Inode i)) (with_key x (Inode i) (shown kv (Inode i))) ∙ same_by (is_due (Inode i)) x.regions);
      at_changed = there (Inode i) walked is;
    }
    walk_goes_on (Region i r) walked is = record {
      paths_are = stay_paths (Region i r) walked is (λ p e. absurd (cc))
          (paths_by (is_due (Region i r)) (with_key x (Region i r) (shown kv (Region i r))) ∙ same_by (is_due (Region i r)) x.paths);
      files_are = stay_files (Region i r) walked is (λ j e. absurd (cc))
          (files_by (is_due (Region i r)) (with_key x (Region i r) (shown kv (Region i r))) ∙ same_by (is_due (Region i r)) x.files);
      regions_are = subst (λ l. Upto kv since regions region_due no_region next l)
          (sym (ap (map value_change) (regions_by (is_due (Region i r)) (with_key x (Region i r) (shown kv (Region i r))))
          ∙ region_more x i r (is_due (Region i r)) (value_now (shown kv (Region i r)))))
          (adds kv since regions region_due no_region (i, r) (map value_change x.regions) walked.regions_are next is);
      at_changed = there (Region i r) walked is;
    }

  -- ---- with the two numbers

  with_numbers : (x : ChangeRows) (q : Key) (now : Option Plain) → ((with_key x q now).installs ≡ x.installs) × ((with_key x q now).next_tx ≡ x.next_tx)
  with_numbers x (Path p) now = (refl, refl)
  with_numbers x (Dir d) now = (refl, refl)
  with_numbers x (Links i) now = (refl, refl)
  with_numbers x (Inode i) now = (refl, refl)
  with_numbers x (Region i r) now = (refl, refl)

  pub record WalkedWith (next_tx : ℕ) (at : Option Key) (x : ChangeRows) : Type 0 where
    pub walked : Walked at x
    pub installs : x.installs ≡ kv.number
    pub next : x.next_tx ≡ next_tx

  module _ (next_tx : ℕ) (at : Option Key) (x : ChangeRows) where
    pub walk_starts : x ≡ none_yet kv.number next_tx → IsNextChanged key_cmp kv since None at → WalkedWith next_tx at x
    walk_starts e is = subst (WalkedWith next_tx at) (sym e)
        (record { walked = walk_begins (none_yet kv.number next_tx) at refl refl refl is; installs = refl; next = refl })

    module _ (q : Key) (here : at ≡ Some q) (so_far : WalkedWith next_tx at x) (next : Option Key) (is : IsNextChanged key_cmp kv since (Some q) next) where
      changed : is_due q ≡ true
      changed = subst IsAt here so_far.walked.at_changed

      pub walk_steps : (y : ChangeRows) → y ≡ with_key x q (shown kv q) → WalkedWith next_tx next y
      walk_steps y e =
          let same = with_numbers x q (shown kv q) in
          let added : key_added q x ≡ with_key x q (shown kv q) = ap (λ b. cond b (with_key x q (shown kv q)) x) changed in
          subst (WalkedWith next_tx next) (sym e) (record {
            walked = subst (Walked next) added (walk_goes_on x next q (subst (λ o. Walked o x) here so_far.walked) is);
            installs = same.0 ∙ so_far.installs;
            next = same.1 ∙ so_far.next;
          })

      pub walk_falls : left_from key_cmp kv next < left_from key_cmp kv at
      walk_falls = subst (λ o. left_from key_cmp kv next < left_from key_cmp kv o) (sym here)
          (left_changed key_cmp key_total same_key kv since q next changed is)

  pub walk_ends : (next_tx : ℕ) (x : ChangeRows) → x.installs ≡ kv.number → x.next_tx ≡ next_tx → Walked None x → AreChangesOf kv since next_tx x
  walk_ends next_tx x installs next walked = record {
    installs = installs;
    next = next;
    paths = λ p. walked.paths_are.each p;
    files = λ i. walked.files_are.each i;
    regions = λ i r. walked.regions_are.each (i, r);
  }

  true_of : (b : Bool) → T b → b ≡ true
  true_of true h = refl
  true_of false h = absurd h

  abbrev path_of : List ℕ × Option Node → PathChange
  path_of e = record { path = e.0; node = e.1 }

  abbrev file_of : InodeId × Option ℕ → FileChange
  file_of e = record { inode = e.0; last = e.1 }

  abbrev region_of : (InodeId × ℕ) × Option ValueRow → RegionChangeRow
  region_of e = record { inode = e.0.0; number = e.0.1; value = e.1 }

  paths_again : (cs : List PathChange) → map path_of (map node_change cs) ≡ cs
  paths_again [] = refl
  paths_again (c ∷ cs) = ap (λ l. c ∷ l) (paths_again cs)

  files_again : (cs : List FileChange) → map file_of (map last_change cs) ≡ cs
  files_again [] = refl
  files_again (c ∷ cs) = ap (λ l. c ∷ l) (files_again cs)

  regions_again : (cs : List RegionChangeRow) → map region_of (map value_change cs) ≡ cs
  regions_again [] = refl
  regions_again (c ∷ cs) = ap (λ l. c ∷ l) (regions_again cs)

  pub walk_rises : (x : ChangeRows) → Walked None x → AreRising x
  walk_rises x walked = record {
    paths = subst (λ l. ascends path_before l ≡ true) (paths_again x.paths)
        (rows-rise (slice_cmp nat_cmp) path_of path_before (λ a b lt. true_of _ lt) (map node_change x.paths) walked.paths_are.sorted);
    files = subst (λ l. ascends file_before l ≡ true) (files_again x.files)
        (rows-rise inode_cmp file_of file_before (λ a b lt. true_of _ lt) (map last_change x.files) walked.files_are.sorted);
    regions = subst (λ l. ascends region_before l ≡ true) (regions_again x.regions)
        (rows-rise place_cmp region_of region_before (λ a b lt. true_of _ lt) (map value_change x.regions) walked.regions_are.sorted);
  }

  pub walk_stops : (next_tx : ℕ) (at : Option Key) (x : ChangeRows) → at ≡ None → WalkedWith next_tx at x → AreInOrder kv since next_tx x
  walk_stops next_tx at x here so_far =
      let walked : Walked None x = subst (λ o. Walked o x) here so_far.walked in
      record { are = walk_ends next_tx x so_far.installs so_far.next walked; rise = walk_rises x walked }

  -- what was walked through and written
  pub changes_told : (next_tx : ℕ) (x : ChangeRows) (bytes : List ℕ) → AreInOrder kv since next_tx x → bytes ≡ changes_text x → AreWide x
      → IsChangesOf kv since next_tx bytes
  changes_told next_tx x bytes in_order text wide = record {
    rows = x;
    text = record {
      shape = record {
        installs = wide.installs;
        next_tx = wide.next_tx;
        paths = record { count = wide.paths.0; each = wide.paths.1; ascend = in_order.rise.paths };
        files = record { count = wide.files.0; each = wide.files.1; ascend = in_order.rise.files };
        regions = record { count = wide.regions.0; each = wide.regions.1; ascend = in_order.rise.regions };
      };
      text = text;
    };
    are = in_order.are;
  }
