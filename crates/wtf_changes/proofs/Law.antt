-- An image with the changes of a store since its number is the image at the number of the store.
use Rattle.std.proofs.Common.{◌≡◌, ◌≢◌, ℕ, zero, suc, ◌+◌, ◌<◌, ◌≤◌, ◌⊎◌, Bool, true, false, cond, nat_lt, T, List, [], ◌∷◌, ◌++◌, map, Option, None, Some}
use Rattle.std.proofs.Common.{IsSome, refl, sym, ap, subst, ◌∙◌, arith, inl, inr}
use Rattle.std.proofs.lemmas.Bool.{cases_Bool, cases_lt, both_ways, ltb-false, ltb-true}
use Rattle.std.proofs.lemmas.Bool.Decides.{nat_tests}
use Rattle.std.proofs.lemmas.Cmp.{nat_cmp_total}
use Rattle.std.proofs.lemmas.List.{map-append}
use Rattle.std.specs.List.{AllByRecursion}
use Rattle.std.specs.Option.{option_map}
use Rattle.std.specs.declared.cmp.Ordering.{Ordering}
use Rattle.std.specs.declared.cmp.Ordering.TheVariants.{Less, Equal, Greater}
use Rattle.std.specs.Ordering.{nat_cmp, is_eq, is_lt, eq_by_cmp}
use Rattle.std.specs.Cmp.{tied_itself}
use Rattle.std.specs.Cmp.Lexicographic.{slice_cmp, nat_list_cmp_total}
use Rattle.std.specs.FinMap.{slice_cmp-IsAntisymmetric, nat_cmp-IsAntisymmetric}
use Rattle.std.specs.FinMap.Entries.{find, is_sorted, find-append, same_entries}
use Rattle.wtf_base.specs.declared.ids.InodeId.{InodeId}
use Rattle.wtf_base.specs.declared.settings.Settings.{Settings}
use Rattle.wtf_overlay.specs.Reading.{◌>>=◌}
use Rattle.wtf_kv.specs.Stores.{Store, version_of}
use Rattle.wtf_kv.proofs.VersionLaws.{unmoved}
use Rattle.wtf_spillfmt.proofs.Codecs.{some_is}
use Rattle.wtf_values.specs.Keys.{key_cmp, inode_cmp, same_inode}
use Rattle.wtf_values.specs.declared.key.Key.{Key}
use Rattle.wtf_values.specs.declared.key.Key.TheVariants.{Path, Inode, Region}
use Rattle.wtf_values.specs.declared.value.Value.{Value}
use Rattle.wtf_imagefmt.specs.declared.records.Header.{Header}
use Rattle.wtf_imagefmt.specs.declared.records.PathRecord.{PathRecord}
use Rattle.wtf_imagefmt.specs.Rows.{ValueRow, RegionRow, FileRow, ImageRows}
use Rattle.wtf_imagefmt.specs.Shapes.{ascends, path_before, file_before, region_before, IsFileRow}
use Rattle.wtf_imagefmt.specs.Lookups.{Plain, NodeIs, NamesAre, LastIs, RegionIs, CountIs, plain, node_at, place_cmp, path_entry}
use Rattle.wtf_imagefmt.specs.Shown.{Shown, shown_at, shown}
use Rattle.wtf_imagefmt.specs.Savable.{IsLastValue}
use Rattle.wtf_imagefmt.specs.Saving.{node_now, last_now, region_now, with_one, regions_below, region_in, file_with, file_at, header_of}
use Rattle.wtf_imagefmt.proofs.Gathered.{region_numbered}
use Rattle.wtf_changes.specs.Rows.{ChangeRows}
use Rattle.wtf_changes.specs.Shapes.{path_before as path_change_before, file_before as file_change_before, region_before as region_change_before, AreChanges}
use Rattle.wtf_changes.specs.Drafts.{set_all, FileEntry, DraftRows, value_of, value_taken, node_taken, regions_taken, file_taken, node_change, with_last}
use Rattle.wtf_changes.specs.Drafts.{files_set, header_with, path_written, region_written, file_written, written, applied}
use Rattle.wtf_changes.specs.Since.{last_change, value_change, value_now, due, AreChangesOf}
use Rattle.wtf_changes.specs.Law.{IsPictureOf, AreImagesSince}
use Rattle.wtf_changes.proofs.Sets.{tied_is, latest, find-set_all, set_all-sorted, rows-sorted}
use Rattle.wtf_changes.proofs.Files.{Entries, inode_total, place_total, found-sorted, file_latest, files_set-sorted, find-files_set, HaveFiles, IsFileAfter}
use Rattle.wtf_changes.proofs.Files.{AreRegionsSet, regions_are_set}
use Rattle.wtf_changes.proofs.Drafts.{taken-sorted}

-- ---- orders

less_of : (o : Ordering) → is_lt o ≡ true → o ≡ Less
less_of Less e = refl
less_of Equal e = cc
less_of Greater e = cc

number_less : (a b : RegionRow) → region_before a b ≡ true → nat_cmp a.number b.number ≡ Less
number_less a b h = let lt : a.number < b.number = ltb-true _ _ h in grind (arith, nat_tests)

same_number : (a b : ℕ) → nat_cmp a b ≡ Equal → a ≡ b
same_number = nat_cmp-IsAntisymmetric

same_path : (p q : List ℕ) → slice_cmp nat_cmp p q ≡ Equal → p ≡ q
same_path = slice_cmp-IsAntisymmetric nat_cmp-IsAntisymmetric

-- ---- what is found of rows that were taken

module _ {A K X : Type 0} (R : K → K → Ordering) (key : A → K) (value : A → X) where
  find-some : (q : K) (xs : List A) → find R q (map (λ a. (key a, Some (value a))) xs)
      ≡ option_map (λ (x : X). Some x) (find R q (map (λ a. (key a, value a)) xs))
  find-some q [] = refl
  find-some q (x ∷ xs) = elim (eq_by_cmp R q (key x)) as
      (λ b. cond b (Some (Some (value x))) (find R q (map (λ a. (key a, Some (value a))) xs)) ≡ option_map (λ (x : X). Some x)
      (cond b (Some (value x)) (find R q (map (λ a. (key a, value a)) xs)))) [
        | true ↦ refl
        | false ↦ find-some q xs
      ]

  find-of : {Y : Type 0} (f : X → Y) (q : K) (xs : List A)
      → find R q (map (λ a. (key a, f (value a))) xs) ≡ option_map f (find R q (map (λ a. (key a, value a)) xs))
  find-of f q [] = refl
  find-of f q (x ∷ xs) = elim (eq_by_cmp R q (key x)) as
      (λ b. cond b (Some (f (value x))) (find R q (map (λ a. (key a, f (value a))) xs)) ≡ option_map f
      (cond b (Some (value x)) (find R q (map (λ a. (key a, value a)) xs)))) [
        | true ↦ refl
        | false ↦ find-of f q xs
      ]

latest-some : {X : Type 0} (o : Option X) → latest (option_map (λ (x : X). Some x) o) None ≡ o
latest-some None = refl
latest-some (Some x) = refl

abbrev pair : RegionRow → ℕ × ValueRow
pair r = (r.number, value_of r)

pairs-sorted : (rs : List RegionRow) → ascends region_before rs ≡ true → T (is_sorted nat_cmp (map pair rs))
pairs-sorted rs h = rows-sorted nat_cmp nat_cmp_total pair region_before number_less rs h

values-sorted : (rs : List RegionRow) → ascends region_before rs ≡ true → T (is_sorted nat_cmp (map value_taken rs))
values-sorted rs h = rows-sorted nat_cmp nat_cmp_total value_taken region_before number_less rs h

find-regions_taken : (r : ℕ) (rs : List RegionRow) → ascends region_before rs ≡ true → find nat_cmp r (regions_taken rs) ≡ find nat_cmp r (map pair rs)
find-regions_taken r rs h =
    find-set_all nat_cmp_total r (map value_taken rs) [] tt (values-sorted rs h)
    ∙ ap (λ o. latest o None) (find-some nat_cmp (λ (r : RegionRow). r.number) value_of r rs) ∙ latest-some (find nat_cmp r (map pair rs))

-- ---- the regions below a number

value-row : (r : ℕ) (s : Option Plain) → option_map value_of (region_now r s) ≡ value_now s
value-row r None = refl
value-row r (Some (NodeIs n)) = refl
value-row r (Some (NamesAre names)) = refl
value-row r (Some (CountIs n)) = refl
value-row r (Some (LastIs n)) = refl
value-row r (Some (RegionIs end base entries)) = refl

module _ (m : Shown) (i : InodeId) where
  abbrev below : ℕ → List (ℕ × ValueRow)
  below n = map pair (regions_below (region_in m i) n)

  one_more : (n : ℕ) (o : Option RegionRow) → region_in m i n ≡ o → find nat_cmp n (below n) ≡ None → (r : ℕ)
      → find nat_cmp r (map pair (with_one (regions_below (region_in m i) n) o)) ≡ cond (is_eq (nat_cmp r n)) (option_map value_of o) (find nat_cmp r (below n))
  one_more n None e fresh r = elim (cases_Bool (is_eq (nat_cmp r n))) [
    | inl t ↦ ap (λ k. find nat_cmp k (below n)) (same_number r n (tied_is _ t)) ∙ fresh ∙ sym (ap (λ b. cond b None (find nat_cmp r (below n))) t)
    | inr t ↦ sym (ap (λ b. cond b None (find nat_cmp r (below n))) t)
  ]
  one_more n (Some row) e fresh r =
      let number : row.number ≡ n = region_numbered n (m (Region i n)) row e in
      ap (find nat_cmp r) (map-append pair (regions_below (region_in m i) n) (row ∷ []))
      ∙ ap (λ k. find nat_cmp r (below n ++ (k, value_of row) ∷ [])) number
      ∙ find-append nat_cmp nat_cmp_total (below n) n (value_of row) r fresh

  past : (n r : ℕ) → n ≤ r → find nat_cmp r (below n) ≡ None
  past zero r le = refl
  past (suc n) r le =
      one_more n (region_in m i n) refl (past n n (omega arith)) r
      ∙ ap (λ b. cond b (option_map value_of (region_in m i n)) (find nat_cmp r (below n))) (let off : r ≢ n = λ same. absurd (omega arith) in apart r n off)
      ∙ past n r (omega arith)
    where
      apart : (a b : ℕ) → a ≢ b → is_eq (nat_cmp a b) ≡ false
      apart a b off = elim (cases_Bool (is_eq (nat_cmp a b))) [ inl t ↦ absurd (off (same_number a b (tied_is _ t))) | inr t ↦ t ]

  found_below : (n r : ℕ) → r < n → find nat_cmp r (below n) ≡ value_now (m (Region i r))
  found_below zero r lt = absurd (omega arith)
  found_below (suc n) r lt = one_more n (region_in m i n) refl (past n n (omega arith)) r ∙ by (λ less. found_below n r less) (is_eq (nat_cmp r n)) refl
    where
      by : (r < n → find nat_cmp r (below n) ≡ value_now (m (Region i r))) → (b : Bool) → is_eq (nat_cmp r n) ≡ b
          → cond b (option_map value_of (region_in m i n)) (find nat_cmp r (below n)) ≡ value_now (m (Region i r))
      by go true t = value-row n (m (Region i n)) ∙ ap (λ k. value_now (m (Region i k))) (sym (same_number r n (tied_is _ t)))
      by go false t =
          let off : r ≢ n = λ same. both_ways _ t (subst (λ k. is_eq (nat_cmp r k) ≡ true) same (ap is_eq (tied_itself nat_cmp_total r))) in
          go (elim (cases_lt r n) [ inl less ↦ less | inr le ↦ absurd (off (omega arith)) ])

-- ---- one map that can be saved, and an image of it

none_of : {A : Type 0} (o : Option A) → (IsSome o → ⊥) → o ≡ None
none_of None off = refl
none_of (Some x) off = absurd (off refl)

not_some : {A : Type 0} (o : Option A) → o ≡ None → IsSome o → ⊥
not_some None e h = absurd (cc)
not_some (Some x) e h = absurd (cc)

no_last : (o : Option Plain) → IsLastValue o → last_now o ≡ None → o ≡ None
no_last None kind e = refl
no_last (Some (NodeIs n)) kind e = absurd kind
no_last (Some (NamesAre names)) kind e = absurd kind
no_last (Some (CountIs n)) kind e = absurd kind
no_last (Some (LastIs n)) kind e = absurd (cc)
no_last (Some (RegionIs end base entries)) kind e = absurd kind

a_last : (o : Option Plain) (n : ℕ) → last_now o ≡ Some n → o ≡ Some (LastIs n)
a_last None n e = absurd (cc)
a_last (Some (NodeIs k)) n e = absurd (cc)
a_last (Some (NamesAre names)) n e = absurd (cc)
a_last (Some (CountIs c)) n e = absurd (cc)
a_last (Some (LastIs k)) n e = ap (λ j. Some (LastIs j)) (some_is k n e)
a_last (Some (RegionIs end base entries)) n e = absurd (cc)

each-row : (fs : List FileRow) (i : InodeId) (f : FileRow) → AllByRecursion IsFileRow fs → file_at fs i ≡ Some f → IsFileRow f
each-row [] i f h e = absurd (cc)
each-row (g ∷ fs) i f h e = elim (cases_Bool (eq_by_cmp inode_cmp i g.inode)) [
  | inl t ↦ (let is : g ≡ f = some_is g f (sym (ap (λ b. cond b (Some g) (file_at fs i)) t) ∙ e) in subst IsFileRow is h.0)
  | inr t ↦ each-row fs i f h.1 (sym (ap (λ b. cond b (Some g) (file_at fs i)) t) ∙ e)
]

module _ (m : Shown) (s : Settings) (number next_tx : ℕ) (x : ImageRows) (pic : IsPictureOf m s number next_tx x) where
  -- a file's region, by its value
  pub region_found : (i : InodeId) (n r : ℕ) → last_now (m (Inode i)) ≡ Some n
      → find nat_cmp r (map pair (file_with m i n).regions) ≡ value_now (m (Region i r))
  region_found i n r e = elim (cases_lt r (n + 1)) [
    | inl lt ↦ found_below m i (n + 1) r lt
    | inr le ↦ past m i (n + 1) r le ∙ sym (ap value_now (pic.savable.above i n r (a_last (m (Inode i)) n e) (omega arith)))
  ]

  pub no_region : (i : InodeId) (r : ℕ) → last_now (m (Inode i)) ≡ None → value_now (m (Region i r)) ≡ None
  no_region i r e =
      let gone : m (Inode i) ≡ None = no_last (m (Inode i)) (pic.savable.lasts i) e in
      ap value_now (none_of (m (Region i r)) (λ here. not_some (m (Inode i)) gone (pic.savable.owned i r here)))

  pub file_is : (i : InodeId) (n : ℕ) → last_now (m (Inode i)) ≡ Some n → file_at x.files i ≡ Some (file_with m i n)
  file_is i n e = pic.says.files i ∙ ap (option_map (file_with m i)) e

  pub file_gone : (i : InodeId) → last_now (m (Inode i)) ≡ None → file_at x.files i ≡ None
  file_gone i e = pic.says.files i ∙ ap (option_map (file_with m i)) e

  pub regions_rise : (i : InodeId) (n : ℕ) → last_now (m (Inode i)) ≡ Some n → ascends region_before (file_with m i n).regions ≡ true
  regions_rise i n e = (each-row x.files i (file_with m i n) pic.shape.files.each (file_is i n e)).ascend

-- ---- the two maps

-- what is due, or else what was, is what is now
due_latest : {X : Type 0} (b : Bool) (old now : Option X) → (b ≡ false → old ≡ now) → latest (cond b (Some now) None) old ≡ now
due_latest true old now same = refl
due_latest false old now same = same refl

file_latest-last : (d : Option (Option ℕ)) (f : Option FileEntry)
    → option_map (λ (f : FileEntry). f.last) (file_latest d f) ≡ latest d (option_map (λ (f : FileEntry). f.last) f)
file_latest-last None f = refl
file_latest-last (Some None) f = refl
file_latest-last (Some (Some n)) None = refl
file_latest-last (Some (Some n)) (Some f) = refl

-- a file behind the changes of last regions has the regions that it had
file_latest-regions : (d : Option (Option ℕ)) (old : Option FileEntry) (f : FileEntry) → file_latest d old ≡ Some f
    → ((g : FileEntry) × (old ≡ Some g) × (f.regions ≡ g.regions)) ⊎ ((old ≡ None) × (f.regions ≡ []))
file_latest-regions None None f e = absurd (cc)
file_latest-regions None (Some g) f e = inl (g, refl, ap (λ (h : FileEntry). h.regions) (sym (some_is g f e)))
file_latest-regions (Some None) old f e = absurd (cc)
file_latest-regions (Some (Some n)) None f e = inr (refl, ap (λ (h : FileEntry). h.regions) (sym (some_is (with_last n None) f e)))
file_latest-regions (Some (Some n)) (Some g) f e = inl (g, refl, ap (λ (h : FileEntry). h.regions) (sym (some_is (with_last n (Some g)) f e)))

abbrev entry_of : FileRow → FileEntry
entry_of f = record { last = f.last; regions = map pair f.regions }

module _ (kv : Store Key Value) (since : ℕ) (s : Settings) (next_tx : ℕ) (x z : ImageRows) (h : AreImagesSince kv since s next_tx x z)
    (ch : ChangeRows) (form : AreChanges ch) (are : AreChangesOf kv since next_tx ch) where
  abbrev m0 : Shown
  m0 = shown_at kv since

  abbrev m1 : Shown
  m1 = shown kv

  abbrev is_due : Key → Bool
  is_due q = nat_lt since (version_of key_cmp kv kv.number q)

  stays : (q : Key) → is_due q ≡ false → m0 q ≡ m1 q
  stays q e = ap (option_map plain) (unmoved key_cmp kv since kv.number q h.pinned h.upto (ltb-false _ _ e))

  -- ---- paths

  path_found : (p : List ℕ) → find (slice_cmp nat_cmp) p
      (set_all (slice_cmp nat_cmp) (set_all (slice_cmp nat_cmp) [] (map node_taken x.paths)) (map node_change ch.paths)) ≡ node_now (m1 (Path p))
  path_found p =
      find-set_all nat_list_cmp_total p (map node_change ch.paths) (set_all (slice_cmp nat_cmp) [] (map node_taken x.paths)) (taken-sorted x).paths
      (rows-sorted (slice_cmp nat_cmp) nat_list_cmp_total node_change path_change_before (λ a b lt. less_of _ lt) ch.paths form.paths.ascend)
      ∙ ap (λ o. latest o (find (slice_cmp nat_cmp) p (set_all (slice_cmp nat_cmp) [] (map node_taken x.paths)))) (are.paths p)
      ∙ ap (latest (due kv since (Path p) (node_now (m1 (Path p)))))
      (find-set_all nat_list_cmp_total p (map node_taken x.paths) [] tt
      (rows-sorted (slice_cmp nat_cmp) nat_list_cmp_total node_taken path_before (λ a b lt. less_of _ lt) x.paths h.old.shape.paths.ascend)
      ∙ ap (λ o. latest o None) (find-some (slice_cmp nat_cmp) (λ (r : PathRecord). r.path) (λ (r : PathRecord). r.node) p x.paths)
      ∙ latest-some (node_at x.paths p) ∙ h.old.says.paths p)
      ∙ due_latest (is_due (Path p)) (node_now (m0 (Path p))) (node_now (m1 (Path p))) (λ e. ap node_now (stays (Path p) e))

  -- ---- files

  abbrev files_taken : Entries
  files_taken = set_all inode_cmp [] (map file_taken x.files)

  abbrev files_then : Entries
  files_then = files_set files_taken ch.files

  abbrev taken_entry : FileRow → FileEntry
  taken_entry f = record { last = f.last; regions = regions_taken f.regions }

  taken_found : (i : InodeId) → find inode_cmp i files_taken ≡ option_map taken_entry (file_at x.files i)
  taken_found i =
      find-set_all inode_total i (map file_taken x.files) [] tt
      (rows-sorted inode_cmp inode_total file_taken file_before (λ a b lt. less_of _ lt) x.files h.old.shape.files.ascend)
      ∙ ap (λ o. latest o None) (find-some inode_cmp (λ (f : FileRow). f.inode) taken_entry i x.files)
      ∙ latest-some (find inode_cmp i (map (λ f. (f.inode, taken_entry f)) x.files))
      ∙ find-of inode_cmp (λ (f : FileRow). f.inode) (λ (f : FileRow). f) taken_entry i x.files

  taken_last : (i : InodeId) → option_map (λ (f : FileEntry). f.last) (find inode_cmp i files_taken) ≡ last_now (m0 (Inode i))
  taken_last i = ap (option_map (λ (f : FileEntry). f.last)) (taken_found i ∙ ap (option_map taken_entry) (h.old.says.files i)) ∙ by (last_now (m0 (Inode i)))
    where
      by : (o : Option ℕ) → option_map (λ (f : FileEntry). f.last) (option_map taken_entry (option_map (file_with m0 i) o)) ≡ o
      by None = refl
      by (Some n) = refl

  then_found : (i : InodeId) → find inode_cmp i files_then ≡ file_latest (due kv since (Inode i) (last_now (m1 (Inode i)))) (find inode_cmp i files_taken)
  then_found i =
      find-files_set i ch.files files_taken (taken-sorted x).files
      (rows-sorted inode_cmp inode_total last_change file_change_before (λ a b lt. less_of _ lt) ch.files form.files.ascend)
      ∙ ap (λ o. file_latest o (find inode_cmp i files_taken)) (are.files i)

  then_last : (i : InodeId) → option_map (λ (f : FileEntry). f.last) (find inode_cmp i files_then) ≡ last_now (m1 (Inode i))
  then_last i =
      ap (option_map (λ (f : FileEntry). f.last)) (then_found i)
      ∙ file_latest-last (due kv since (Inode i) (last_now (m1 (Inode i)))) (find inode_cmp i files_taken)
      ∙ ap (latest (due kv since (Inode i) (last_now (m1 (Inode i))))) (taken_last i)
      ∙ due_latest (is_due (Inode i)) (last_now (m0 (Inode i))) (last_now (m1 (Inode i))) (λ e. ap last_now (stays (Inode i) e))

  -- the regions that were taken of a file
  taken_region : (i : InodeId) (g : FileEntry) (r : ℕ) → find inode_cmp i files_taken ≡ Some g → find nat_cmp r g.regions ≡ value_now (m0 (Region i r))
  taken_region i g r e = by (last_now (m0 (Inode i))) refl
    where
      by : (o : Option ℕ) → last_now (m0 (Inode i)) ≡ o → find nat_cmp r g.regions ≡ value_now (m0 (Region i r))
      by None none =
          (let bad : None ≡ Some g = sym (ap (option_map taken_entry) (file_gone m0 s since h.before x h.old i none)) ∙ sym (taken_found i) ∙ e in absurd (cc))
      by (Some n) is =
          let it : taken_entry (file_with m0 i n) ≡ g =
          some_is (taken_entry (file_with m0 i n)) g (sym (ap (option_map taken_entry) (file_is m0 s since h.before x h.old i n is))
          ∙ sym (taken_found i) ∙ e) in
          ap (λ (k : FileEntry). find nat_cmp r k.regions) (sym it)
          ∙ find-regions_taken r (file_with m0 i n).regions (regions_rise m0 s since h.before x h.old i n is)
          ∙ region_found m0 s since h.before x h.old i n r is

  then_region : (i : InodeId) (f : FileEntry) (r : ℕ) → find inode_cmp i files_then ≡ Some f → find nat_cmp r f.regions ≡ value_now (m0 (Region i r))
  then_region i f r e =
      elim (file_latest-regions (due kv since (Inode i) (last_now (m1 (Inode i)))) (find inode_cmp i files_taken) f (sym (then_found i) ∙ e)) [
        | inl old ↦ ap (find nat_cmp r) old.2 ∙ taken_region i old.0 r old.1
        | inr new ↦ ap (find nat_cmp r) new.1 ∙ sym (no_region m0 s since h.before x h.old i r
            (sym (taken_last i) ∙ ap (option_map (λ (f : FileEntry). f.last)) new.0))
      ]

  -- ---- regions

  has_file : (i : InodeId) → IsSome (m1 (Inode i)) → IsSome (find inode_cmp i files_then)
  has_file i there = by (find inode_cmp i files_then) refl
    where
      by : (o : Option FileEntry) → find inode_cmp i files_then ≡ o → IsSome o
      by None none =
          absurd (not_some (m1 (Inode i)) (no_last (m1 (Inode i)) (h.new.savable.lasts i)
          (sym (then_last i) ∙ ap (option_map (λ (f : FileEntry). f.last)) none)) there)
      by (Some f) e = refl

  some_value : (o : Option Plain) (v : ValueRow) → value_now o ≡ Some v → IsSome o
  some_value None v e = absurd (cc)
  some_value (Some p) v e = refl

  due_value : (b : Bool) (now : Option ValueRow) (v : ValueRow) → cond b (Some now) None ≡ Some (Some v) → now ≡ Some v
  due_value true now v e = some_is now (Some v) e
  due_value false now v e = absurd (cc)

  have : HaveFiles ch.regions files_then
  have i r v e = has_file i
      (h.new.savable.owned i r (some_value (m1 (Region i r)) v
      (due_value (is_due (Region i r)) (value_now (m1 (Region i r))) v (sym (are.regions i r) ∙ e))))

  set_regions : (made : Entries) × AreRegionsSet ch.regions files_then made
  set_regions =
      regions_are_set ch.regions files_then (files_set-sorted files_taken ch.files (taken-sorted x).files)
      (rows-sorted place_cmp place_total value_change region_change_before (λ a b lt. less_of _ lt) ch.regions form.regions.ascend) have

  abbrev made : Entries
  made = set_regions.0

  abbrev done : AreRegionsSet ch.regions files_then made
  done = set_regions.1

  made_region : (i : InodeId) (f g : FileEntry) (r : ℕ) → find inode_cmp i files_then ≡ Some f → IsFileAfter ch.regions i f g
      → find nat_cmp r g.regions ≡ value_now (m1 (Region i r))
  made_region i f g r e after =
      after.regions r ∙ ap (λ o. latest o (find nat_cmp r f.regions)) (are.regions i r)
      ∙ ap (latest (due kv since (Region i r) (value_now (m1 (Region i r))))) (then_region i f r e)
      ∙ due_latest (is_due (Region i r)) (value_now (m0 (Region i r))) (value_now (m1 (Region i r))) (λ e. ap value_now (stays (Region i r) e))

  -- what each file is
  made_file : (i : InodeId) → find inode_cmp i made ≡ option_map entry_of (file_at z.files i)
  made_file i = by (find inode_cmp i files_then) refl
    where
      by : (o : Option FileEntry) → find inode_cmp i files_then ≡ o → find inode_cmp i made ≡ option_map entry_of (file_at z.files i)
      by None none =
          done.gone i none ∙ sym (ap (option_map entry_of) (file_gone m1 s kv.number next_tx z h.new i
          (sym (then_last i) ∙ ap (option_map (λ (f : FileEntry). f.last)) none)))
      by (Some f) e =
          let after = done.there i f e in
          let g = after.0 in
          let last : last_now (m1 (Inode i)) ≡ Some f.last = sym (then_last i) ∙ ap (option_map (λ (f : FileEntry). f.last)) e in
          let row : FileRow = file_with m1 i f.last in
          let sorted : T (is_sorted nat_cmp g.regions) = found-sorted made i g done.sorted after.1 in
          let regions : g.regions ≡ map pair row.regions =
          same_entries nat_cmp nat_cmp_total same_number g.regions (map pair row.regions) sorted
          (pairs-sorted row.regions (regions_rise m1 s kv.number next_tx z h.new i f.last last))
          (λ r. made_region i f g r e after.2 ∙ sym (region_found m1 s kv.number next_tx z h.new i f.last r last)) in
          let it : g ≡ entry_of row = λ k. record { last = after.2.last k; regions = regions k } in
          after.1 ∙ ap (λ (w : FileEntry). Some w) it ∙ sym (ap (option_map entry_of) (file_is m1 s kv.number next_tx z h.new i f.last last))

  -- ---- the image

  paths_are : map path_written (set_all (slice_cmp nat_cmp) (set_all (slice_cmp nat_cmp) [] (map node_taken x.paths)) (map node_change ch.paths)) ≡ z.paths
  paths_are =
      ap (map path_written)
      (same_entries (slice_cmp nat_cmp) nat_list_cmp_total same_path _ (map path_entry z.paths)
      (set_all-sorted nat_list_cmp_total (set_all (slice_cmp nat_cmp) [] (map node_taken x.paths)) (map node_change ch.paths) (taken-sorted x).paths)
      (rows-sorted (slice_cmp nat_cmp) nat_list_cmp_total path_entry path_before (λ a b lt. less_of _ lt) z.paths h.new.shape.paths.ascend)
      (λ p. path_found p ∙ sym (h.new.says.paths p)))
      ∙ again z.paths
    where
      again : (rs : List PathRecord) → map path_written (map path_entry rs) ≡ rs
      again [] = refl
      again (r ∷ rs) = ap (λ l. r ∷ l) (again rs)

  abbrev keyed : FileRow → InodeId × FileEntry
  keyed f = (f.inode, entry_of f)

  files_are : map file_written made ≡ z.files
  files_are =
      ap (map file_written)
      (same_entries inode_cmp inode_total same_inode made (map keyed z.files) done.sorted.keys
      (rows-sorted inode_cmp inode_total keyed file_before (λ a b lt. less_of _ lt) z.files h.new.shape.files.ascend)
      (λ i. made_file i ∙ sym (find-of inode_cmp (λ (f : FileRow). f.inode) (λ (f : FileRow). f) entry_of i z.files)))
      ∙ again z.files
    where
      regions_again : (rs : List RegionRow) → map region_written (map pair rs) ≡ rs
      regions_again [] = refl
      regions_again (r ∷ rs) = ap (λ l. r ∷ l) (regions_again rs)

      again : (fs : List FileRow) → map file_written (map keyed fs) ≡ fs
      again [] = refl
      again (f ∷ fs) = λ k. record { inode = f.inode; last = f.last; regions = regions_again f.regions k } ∷ again fs k

  header_is : header_with x.header ch ≡ z.header
  header_is =
      let numbers : header_with (header_of s since h.before) ch ≡ header_of s kv.number next_tx =
      λ k. record { servers = s.servers; replicas = s.replicas; region = s.region; installs = are.installs k; next_tx = are.next k } in
      ap (λ (w : Header). header_with w ch) h.old.header ∙ numbers ∙ sym h.new.header

  abbrev drawn : Entries → DraftRows
  drawn files = record {
    header = header_with x.header ch;
    paths = set_all (slice_cmp nat_cmp) (set_all (slice_cmp nat_cmp) [] (map node_taken x.paths)) (map node_change ch.paths);
    files = files;
  }

  pub image_again : applied x ch ≡ Some z
  image_again =
      let same : written (drawn made) ≡ z = λ k. record { version = sym h.second k; header = header_is k; paths = paths_are k; files = files_are k } in
      ap (λ o. option_map written (o >>= λ files. Some (drawn files))) done.is ∙ ap (λ (w : ImageRows). Some w) same
