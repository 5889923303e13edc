-- The image of metadata that can be saved says them again, key by key.
use Rattle.std.proofs.Common.{◌≡◌, ◌≢◌, ℕ, zero, suc, ◌+◌, ◌<◌, ◌≤◌, ◌^◌, Bool, true, false, cond, ◌&&◌, ◌||◌, List, [], ◌∷◌, ◌++◌, map, Option, None, Some}
use Rattle.std.proofs.Common.{is_some, IsSome, refl, sym, ap, subst, ◌∙◌, arith, inl, inr}
use Rattle.std.specs.List.{list_all, list_any, AllByRecursion, flat_map}
use Rattle.std.specs.Option.{option_map, option_or}
use Rattle.std.specs.FinMap.Entries.{find}
use Rattle.std.specs.Ordering.{is_eq, eq_by_cmp, nat_cmp, ordering_then}
use Rattle.std.specs.Cmp.{tied_itself}
use Rattle.std.specs.Cmp.Lexicographic.{slice_cmp}
use Rattle.std.specs.declared.cmp.Ordering.{Ordering}
use Rattle.std.specs.declared.cmp.Ordering.TheVariants.{Less, Equal, Greater}
use Rattle.std.proofs.lemmas.Bool.{cases_Bool, cases_lt, both_ways}
use Rattle.std.proofs.lemmas.Cmp.{nat_cmp_total}
use Rattle.std.proofs.lemmas.List.{map-append, append-nil}
use Rattle.std.proofs.lemmas.Map.Lookups.{exact_unsigned}
use Rattle.std.proofs.lemmas.Slice.Eq.{bytes_eq-Decides}
use Rattle.wtf_base.specs.Limits.{AreSettings}
use Rattle.wtf_base.specs.declared.ids.InodeId.{InodeId}
use Rattle.wtf_base.specs.declared.settings.Settings.{Settings}
use Rattle.wtf_kv.specs.Stores.{Store}
use Rattle.wtf_values.specs.declared.value.Value.{Value}
use Rattle.wtf_image.specs.declared.error.LoadError.{LoadError}
use Rattle.wtf_image.specs.declared.error.LoadError.TheVariants as error
use Rattle.wtf_image.specs.declared.loads.Loaded.{Loaded}
use Rattle.wtf_imagefmt.specs.declared.records.Header.{Header}
use Rattle.wtf_imagefmt.specs.Texts.{image_text}
use Rattle.wtf_image.specs.Rules.{is_before, is_node_before, is_good_file, AreGoodSettings, IsGoodTree}
use Rattle.wtf_image.specs.Loading.{IsRefusalWithout}
use Rattle.wtf_image.specs.Outcome.{IsLoadWithout}
use Rattle.wtf_image.specs.Kept.{IsKept, IsSameAs, IsPointerOrMemory}
use Rattle.wtf_meta.specs.Maps.{metadata_at}
use Rattle.wtf_imagefmt.proofs.Forms.{one_image}
use Rattle.wtf_image.proofs.PlainLaws.{same_optional}
use Rattle.wtf_model.specs.Tree.{path_count, is_in, is_at as stands_at}
use Rattle.wtf_path.specs.Parts.{parent_of, name_of}
use Rattle.wtf_values.specs.Keys.{inode_cmp}
use Rattle.wtf_values.specs.Names.{NamesOf, no_names, with_name, has_name, name_cmp}
use Rattle.wtf_values.specs.declared.key.Key.{Key}
use Rattle.wtf_values.specs.declared.key.Key.TheVariants.{Path, Dir, Inode, Region, Links}
use Rattle.wtf_values.specs.declared.value.Node.{Node}
use Rattle.wtf_values.specs.declared.value.Node.TheVariants.{Folder, File}
use Rattle.wtf_values.proofs.KeyLaws.{inode_itself}
use Rattle.wtf_values.proofs.NameLaws.{same_names, has-none, has-with, same_name, name_itself}
use Rattle.wtf_imagefmt.specs.declared.records.PathRecord.{PathRecord}
use Rattle.wtf_imagefmt.specs.Rows.{RegionRow, FileRow, ImageRows}
use Rattle.wtf_imagefmt.specs.Shapes.{ascends, file_before, IsImage}
use Rattle.wtf_imagefmt.specs.Lookups.{Plain, NodeIs, NamesAre, LastIs, RegionIs, CountIs, plain_region, node_at, last_at, times_named, count_row, place_cmp}
use Rattle.wtf_imagefmt.specs.Lookups.{region_entry, region_entries, region_at, added_name, names_from, names_under, names_of_node, row_at}
use Rattle.wtf_image.specs.Tables.{Shown, shown}
use Rattle.wtf_imagefmt.specs.Saving.{node_now, last_now, region_now, with_one, regions_below, region_in, file_with, file_at, Says, header_of, IsSaveOf}
use Rattle.wtf_image.specs.Savable.{IsNodeValue, IsLastValue, IsRegionValue, IsListingOf, HasNames, IsSavable}
use Rattle.wtf_image.proofs.Counted.{inode_same, none_named, names_counted}
use Rattle.wtf_image.proofs.SeedLaws.{find-both}
use Rattle.wtf_imagefmt.proofs.Gathered.{region_numbered}
use Rattle.wtf_image.proofs.SaveTree.{node_row, last_row, top_good, parents_good, recorded_good, paths_before_good, all_found, shown_node, tie_same, some_value}
use Rattle.wtf_image.proofs.SaveFiles.{file_after, files_tail, files_before_good, named_all, files_good}

-- ---- regions of one file among those of all

then_off : (o p : Ordering) → is_eq o ≡ false → is_eq (ordering_then o p) ≡ false
then_off Less p h = refl
then_off Equal p h = absurd (cc)
then_off Greater p h = refl

off_regions : (i j : InodeId) (r : ℕ) (rs : List RegionRow) → is_eq (inode_cmp i j) ≡ false → find place_cmp (i, r) (map (region_entry j) rs) ≡ None
off_regions i j r [] off = refl
off_regions i j r (x ∷ xs) off =
    ap (λ b. cond b (Some x) (find place_cmp (i, r) (map (region_entry j) xs))) (then_off (inode_cmp i j) (nat_cmp r x.number) off) ∙ off_regions i j r xs off

none_at : (i : InodeId) (r : ℕ) (fs : List FileRow) → file_at fs i ≡ None → region_at fs i r ≡ None
none_at i r [] h = refl
none_at i r (f ∷ fs) h = elim (cases_Bool (is_eq (inode_cmp i f.inode))) [
  | inl tie ↦ (let bad : Some f ≡ None = sym (ap (λ b. cond b (Some f) (file_at fs i)) tie) ∙ h in absurd (cc))
  | inr off ↦ find-both place_cmp (i, r) (region_entries f) (flat_map region_entries fs)
      ∙ ap (λ o. option_or o (region_at fs i r)) (off_regions i f.inode r f.regions off)
      ∙ none_at i r fs (sym (ap (λ b. cond b (Some f) (file_at fs i)) off) ∙ h)
]

or_none : {A : Type 0} (o : Option A) → option_or o None ≡ o
or_none None = refl
or_none (Some x) = refl

pub in_file : (i : InodeId) (r : ℕ) (fs : List FileRow) (f : FileRow) → ascends file_before fs ≡ true → file_at fs i ≡ Some f
    → region_at fs i r ≡ find place_cmp (i, r) (region_entries f)
in_file i r [] f h e = absurd (cc)
in_file i r (g ∷ fs) f h e = elim (cases_Bool (is_eq (inode_cmp i g.inode))) [
  | inl tie ↦ (
      let same : i ≡ g.inode = inode_same i g.inode tie in
      let is : Some g ≡ Some f = sym (ap (λ b. cond b (Some g) (file_at fs i)) tie) ∙ e in
      let it : g ≡ f = cc in
      let none : region_at fs i r ≡ None = none_at i r fs (ap (file_at fs) same ∙ file_after g fs h) in
      find-both place_cmp (i, r) (region_entries g) (flat_map region_entries fs)
      ∙ ap (option_or (find place_cmp (i, r) (region_entries g))) none ∙ or_none (find place_cmp (i, r) (region_entries g))
      ∙ ap (λ (k : FileRow). find place_cmp (i, r) (region_entries k)) it)
  | inr off ↦ find-both place_cmp (i, r) (region_entries g) (flat_map region_entries fs)
      ∙ ap (λ o. option_or o (region_at fs i r)) (off_regions i g.inode r g.regions off)
      ∙ in_file i r fs f (files_tail g fs h) (sym (ap (λ b. cond b (Some g) (file_at fs i)) off) ∙ e)
]

-- ---- the regions below a number

pub place_is : (i : InodeId) (r n : ℕ) → eq_by_cmp place_cmp (i, r) (i, n) ≡ is_eq (nat_cmp r n)
place_is i r n = ap (λ o. is_eq (ordering_then o (nat_cmp r n))) (inode_itself i)

pub number_tie : (n : ℕ) → is_eq (nat_cmp n n) ≡ true
number_tie n = ap is_eq (tied_itself nat_cmp_total n)

equal_is : (o : Ordering) → is_eq o ≡ true → o ≡ Equal
equal_is Less e = cc
equal_is Equal e = refl
equal_is Greater e = cc

pub number_same : (r n : ℕ) → is_eq (nat_cmp r n) ≡ true → r ≡ n
number_same r n tie = exact_unsigned r n (equal_is _ tie)

pub number_off : (r n : ℕ) → r ≢ n → is_eq (nat_cmp r n) ≡ false
number_off r n off = elim (cases_Bool (is_eq (nat_cmp r n))) [ inl tie ↦ absurd (off (number_same r n tie)) | inr h ↦ h ]

module _ (i : InodeId) (now : ℕ → Option RegionRow) (numbered : (r : ℕ) (row : RegionRow) → now r ≡ Some row → row.number ≡ r) where
  abbrev found : List RegionRow → ℕ → Option RegionRow
  found rs r = find place_cmp (i, r) (map (region_entry i) rs)

  pushed : (xs : List RegionRow) (row : RegionRow) (r : ℕ)
      → found (xs ++ row ∷ []) r ≡ option_or (found xs r) (cond (is_eq (nat_cmp r row.number)) (Some row) None)
  pushed xs row r =
      ap (find place_cmp (i, r)) (map-append (region_entry i) xs (row ∷ []))
      ∙ find-both place_cmp (i, r) (map (region_entry i) xs) (map (region_entry i) (row ∷ []))
      ∙ ap (λ b. option_or (found xs r) (cond b (Some row) None)) (place_is i r row.number)

  found_other : (xs : List RegionRow) (n r : ℕ) (o : Option RegionRow) → now n ≡ o → r ≢ n → found (with_one xs o) r ≡ found xs r
  found_other xs n r None e off = refl
  found_other xs n r (Some row) e off =
      let number : row.number ≡ n = numbered n row e in
      pushed xs row r ∙ ap (λ b. option_or (found xs r) (cond b (Some row) None)) (ap (λ k. is_eq (nat_cmp r k)) number ∙ number_off r n off)
      ∙ or_none (found xs r)

  found_new : (xs : List RegionRow) (n : ℕ) (o : Option RegionRow) → now n ≡ o → found xs n ≡ None → found (with_one xs o) n ≡ o
  found_new xs n None e none = none
  found_new xs n (Some row) e none =
      let number : row.number ≡ n = numbered n row e in
      pushed xs row n ∙ ap (λ p. option_or p (cond (is_eq (nat_cmp n row.number)) (Some row) None)) none
      ∙ ap (λ b. cond b (Some row) None) (ap (λ k. is_eq (nat_cmp n k)) number ∙ number_tie n)

  past_none : (n r : ℕ) → n ≤ r → found (regions_below now n) r ≡ None
  past_none zero r le = refl
  past_none (suc n) r le = found_other (regions_below now n) n r (now n) refl (λ same. absurd (omega arith)) ∙ past_none n r (omega arith)

  below_found : (n r : ℕ) → r < n → found (regions_below now n) r ≡ now r
  below_found zero r lt = absurd (omega arith)
  below_found (suc n) r lt = elim (cases_lt r n) [
    | inl less ↦ found_other (regions_below now n) n r (now n) refl (λ same. absurd (omega arith)) ∙ below_found n r less
    | inr le ↦ (let same : r ≡ n = omega arith in
        ap (found (regions_below now (suc n))) same ∙ found_new (regions_below now n) n (now n) refl (past_none n n (omega arith)) ∙ ap now (sym same))
  ]

region_kind : (r : ℕ) (o : Option Plain) → IsRegionValue o → option_map plain_region (region_now r o) ≡ o
region_kind r None h = refl
region_kind r (Some (NodeIs n)) h = absurd h
region_kind r (Some (NamesAre names)) h = absurd h
region_kind r (Some (CountIs n)) h = absurd h
region_kind r (Some (LastIs n)) h = absurd h
region_kind r (Some (RegionIs end base entries)) h = refl

-- ---- names

two_bools : (p q : Bool) → (p ≡ true → q ≡ true) → (q ≡ true → p ≡ true) → p ≡ q
two_bools true q f g = sym (f refl)
two_bools false q f g = elim (cases_Bool q) [ inl t ↦ absurd (both_ways false refl (g t)) | inr t ↦ sym t ]

-- a path stands in d, under this name
abbrev is_entry : List ℕ → List ℕ → List ℕ → Bool
is_entry d name p = is_in d p && is_eq (name_cmp name (name_of p))

or_swap : (a b c : Bool) → (b || (a || c)) ≡ ((a || b) || c)
or_swap true true c = refl
or_swap true false c = refl
or_swap false true c = refl
or_swap false false c = refl

has_added_name : (d p : List ℕ) (s : NamesOf) (name : List ℕ) → has_name (added_name d p s) name ≡ (is_entry d name p || has_name s name)
has_added_name d p s name = elim (cases_Bool (is_in d p)) [
  | inl t ↦ ap (λ b. has_name (cond b (with_name s (name_of p)) s) name) t ∙ has-with s (name_of p) name
      ∙ sym (ap (λ b. (b && is_eq (name_cmp name (name_of p))) || has_name s name) t)
  | inr t ↦ ap (λ b. has_name (cond b (with_name s (name_of p)) s) name) t ∙ sym (ap (λ b. (b && is_eq (name_cmp name (name_of p))) || has_name s name) t)
]

has_names_from : (s : NamesOf) (d : List ℕ) (name : List ℕ) (rs : List PathRecord)
    → has_name (names_from s d rs) name ≡ (has_name s name || list_any (λ r. is_entry d name r.path) rs)
has_names_from s d name [] = or_false (has_name s name)
  where
    or_false : (b : Bool) → b ≡ (b || false)
    or_false true = refl
    or_false false = refl
has_names_from s d name (r ∷ rs) = has_names_from (added_name d r.path s) d name rs
    ∙ ap (λ b. b || list_any (λ (r : PathRecord). is_entry d name r.path) rs) (has_added_name d r.path s name)
    ∙ sym (or_swap (is_entry d name r.path) (has_name s name) (list_any (λ (r : PathRecord). is_entry d name r.path) rs))

-- a test that a path passes is passed by some record, where the path is found
any_found : (t : List ℕ → Bool) (p : List ℕ) (n : Node) (rs : List PathRecord) → node_at rs p ≡ Some n → t p ≡ true → list_any (λ r. t r.path) rs ≡ true
any_found t p n [] e h = absurd (cc)
any_found t p n (r ∷ rs) e h = elim (cases_Bool (is_eq (slice_cmp nat_cmp p r.path))) [
  | inl tie ↦ ap (λ b. b || list_any (λ (r : PathRecord). t r.path) rs) (subst (λ q. t q ≡ true) (tie_same p r.path tie) h)
  | inr off ↦ ap (λ b. t r.path || b) (any_found t p n rs (sym (ap (λ b. cond b (Some r.node) (node_at rs p)) off) ∙ e) h) ∙ or_true (t r.path)
]
  where
    or_true : (b : Bool) → (b || true) ≡ true
    or_true true = refl
    or_true false = refl

and_both : (p q : Bool) → (p && q) ≡ true → (p ≡ true) × (q ≡ true)
and_both true q h = (refl, h)
and_both false q h = absurd (cc)

stands_in : (d : List ℕ) (o : Option (List ℕ)) → stands_at d o ≡ true → o ≡ Some d
stands_in d None h = absurd (cc)
stands_in d (Some up) h = ap (λ x. Some x) ((bytes_eq-Decides up d).0 h)

in_stands : (d : List ℕ) (o : Option (List ℕ)) → o ≡ Some d → stands_at d o ≡ true
in_stands d o e = ap (stands_at d) e ∙ (bytes_eq-Decides d d).1 refl

module _ (b next_tx : ℕ) (m : Shown) (savable : IsSavable b next_tx m) (x : ImageRows) (form : IsImage x) (says : Says m x) where
  -- ---- regions

  not_some : (o : Option Plain) → (IsSome o → ⊥) → o ≡ None
  not_some None off = refl
  not_some (Some s) off = absurd (off refl)

  none_some : (o : Option Plain) → o ≡ None → IsSome o → ⊥
  none_some None e h = absurd (cc)
  none_some (Some s) e h = absurd (cc)

  region_none : (i : InodeId) (r : ℕ) → m (Inode i) ≡ None → option_map plain_region (region_at x.files i r) ≡ m (Region i r)
  region_none i r e =
      let none : file_at x.files i ≡ None = says.files i ∙ ap (λ o. option_map (file_with m i) (last_now o)) e in
      let gone : m (Region i r) ≡ None = not_some (m (Region i r)) (λ here. none_some (m (Inode i)) e (savable.owned i r here)) in
      ap (option_map plain_region) (none_at i r x.files none) ∙ sym gone

  region_some : (i : InodeId) (r n : ℕ) → m (Inode i) ≡ Some (LastIs n) → option_map plain_region (region_at x.files i r) ≡ m (Region i r)
  region_some i r n e =
      let file : file_at x.files i ≡ Some (file_with m i n) = says.files i ∙ ap (λ o. option_map (file_with m i) (last_now o)) e in
      let numbered : (q : ℕ) (row : RegionRow) → region_in m i q ≡ Some row → row.number ≡ q = λ q row h. region_numbered q (m (Region i q)) row h in
      let its : region_at x.files i r ≡ find place_cmp (i, r) (region_entries (file_with m i n)) =
      in_file i r x.files (file_with m i n) form.files.ascend file in
      elim (cases_lt r (n + 1)) [
        | inl lt ↦ ap (option_map plain_region) (its ∙ below_found i (region_in m i) numbered (n + 1) r lt)
            ∙ region_kind r (m (Region i r)) (savable.regions i r)
        | inr le ↦ ap (option_map plain_region) (its ∙ past_none i (region_in m i) numbered (n + 1) r le) ∙ sym (savable.above i n r e (omega arith))
      ]

  region_by : (i : InodeId) (r : ℕ) (o : Option Plain) → m (Inode i) ≡ o → IsLastValue o → option_map plain_region (region_at x.files i r) ≡ m (Region i r)
  region_by i r None e h = region_none i r e
  region_by i r (Some (NodeIs n)) e h = absurd h
  region_by i r (Some (NamesAre names)) e h = absurd h
  region_by i r (Some (CountIs n)) e h = absurd h
  region_by i r (Some (LastIs n)) e h = region_some i r n e
  region_by i r (Some (RegionIs end base entries)) e h = absurd h

  -- ---- names

  some_node : (p : List ℕ) (o : Option Plain) → m (Path p) ≡ o → IsNodeValue o → IsSome o → (n : Node) × (node_at x.paths p ≡ Some n)
  some_node p None e h there = absurd (cc)
  some_node p (Some (NodeIs n)) e h there = (n, says.paths p ∙ ap node_now e)
  some_node p (Some (NamesAre names)) e h there = absurd h
  some_node p (Some (CountIs n)) e h there = absurd h
  some_node p (Some (LastIs n)) e h there = absurd h
  some_node p (Some (RegionIs end base entries)) e h there = absurd h

  listed_entry : (d : List ℕ) (names : NamesOf) → IsListingOf m d names → (name : List ℕ) → has_name names name ≡ true
      → list_any (λ r. is_entry d name r.path) x.paths ≡ true
  listed_entry d names listing name h =
      let w = listing.only name h in
      let at = some_node w.0 (m (Path w.0)) refl (savable.nodes w.0) w.3 in
      let test : is_entry d name w.0 ≡ true = ap (λ t. t && is_eq (name_cmp name (name_of w.0))) (in_stands d (parent_of w.0) w.1)
      ∙ ap (λ k. is_eq (name_cmp name k)) w.2 ∙ ap is_eq (name_itself name) in
      any_found (is_entry d name) w.0 at.0 x.paths at.1 test

  entry_listed : (d : List ℕ) (names : NamesOf) → IsListingOf m d names → (name : List ℕ) (rs : List PathRecord)
      → AllByRecursion (λ r. node_at x.paths r.path ≡ Some r.node) rs
      → list_any (λ r. is_entry d name r.path) rs ≡ true → has_name names name ≡ true
  entry_listed d names listing name [] all h = absurd (cc)
  entry_listed d names listing name (r ∷ rs) all h = elim (cases_Bool (is_entry d name r.path)) [
    | inl t ↦ (
        let both = and_both (is_in d r.path) (is_eq (name_cmp name (name_of r.path))) t in
        let same : name ≡ name_of r.path = same_name name (name_of r.path) (equal_is _ both.1) in
        let here : IsSome (m (Path r.path)) = some_value (m (Path r.path)) (NodeIs r.node) (shown_node b next_tx m savable x form says r.path r.node all.0) in
        subst (λ k. has_name names k ≡ true) (sym same) (listing.each r.path (stands_in d (parent_of r.path) both.0) here))
    | inr t ↦ entry_listed d names listing name rs all.1 (sym (ap (λ c. c || list_any (λ (r : PathRecord). is_entry d name r.path) rs) t) ∙ h)
  ]

  names_are : (d : List ℕ) (names : NamesOf) → IsListingOf m d names → names_under d x.paths ≡ names
  names_are d names listing = same_names (names_under d x.paths) names (λ name.
      has_names_from no_names d name x.paths
      ∙ ap (λ c. c || list_any (λ (r : PathRecord). is_entry d name r.path) x.paths) (has-none name)
      ∙ two_bools (list_any (λ (r : PathRecord). is_entry d name r.path) x.paths) (has_name names name)
      (entry_listed d names listing name x.paths (all_found b next_tx m savable x form says))
      (listed_entry d names listing name))

  not_folder : (p : List ℕ) (n : Node) → node_at x.paths p ≡ Some n → n ≢ Folder → m (Path p) ≢ Some (NodeIs Folder)
  not_folder p n e off same =
      let is : Some (NodeIs n) ≡ Some (NodeIs Folder) = sym (shown_node b next_tx m savable x form says p n e) ∙ same in
      off (cc)

  names_by : (p : List ℕ) (o : Option Node) → node_at x.paths p ≡ o → names_of_node (names_under p x.paths) o ≡ m (Dir p)
  names_by p None e =
      let gone : m (Path p) ≡ None = sym (node_row b next_tx m savable x form says p) ∙ ap (option_map NodeIs) e in
      sym (savable.no_names p (λ same. let bad : None ≡ Some (NodeIs Folder) = sym gone ∙ same in absurd (cc)))
  names_by p (Some Folder) e =
      let listing = savable.folders p (shown_node b next_tx m savable x form says p Folder e) in
      ap (λ s. Some (NamesAre s)) (names_are p listing.names listing.listing) ∙ sym listing.value
  names_by p (Some (File i)) e = sym (savable.no_names p (not_folder p (File i) e (λ same. absurd (cc))))

  -- ---- numbers of paths

  -- no path names an inode that has no record
  none_leads : (i : InodeId) → m (Inode i) ≡ None → is_some (last_at x.files i) ≡ false
  none_leads i e = sym (mapped (last_at x.files i)) ∙ ap is_some (last_row b next_tx m savable x form says i) ∙ ap is_some e
    where
      mapped : (o : Option ℕ) → is_some (option_map LastIs o) ≡ is_some o
      mapped None = refl
      mapped (Some n) = refl

  count_none : (i : InodeId) → m (Inode i) ≡ None → count_row (times_named x.paths i) ≡ m (Links i)
  count_none i e =
      let none : times_named x.paths i ≡ 0 = none_named x.files i x.paths (recorded_good b next_tx m savable x form says) (none_leads i e) in
      let gone : m (Links i) ≡ None = not_some (m (Links i)) (λ here. none_some (m (Inode i)) e (savable.counted i here)) in
      ap count_row none ∙ sym gone

  count_some : (i : InodeId) → HasNames m i → count_row (times_named x.paths i) ≡ m (Links i)
  count_some i names =
      let times : times_named x.paths i ≡ path_count names.paths = names_counted i x.paths names.paths form.paths.ascend
      (λ p has. says.paths p ∙ ap node_now (names.lead p has))
      (λ p e. names.all p (shown_node b next_tx m savable x form says p (File i) e)) in
      ap count_row times ∙ sym names.count

  count_by : (i : InodeId) (o : Option Plain) → m (Inode i) ≡ o → count_row (times_named x.paths i) ≡ m (Links i)
  count_by i None e = count_none i e
  count_by i (Some s) e = count_some i (savable.named i (some_value (m (Inode i)) s e))

  -- what the image says of each key is what the metadata have
  pub says_all : (q : Key) → row_at x q ≡ m q
  says_all (Path p) = node_row b next_tx m savable x form says p
  says_all (Dir p) = names_by p (node_at x.paths p) refl
  says_all (Inode i) = last_row b next_tx m savable x form says i
  says_all (Region i r) = region_by i r (m (Inode i)) refl (savable.lasts i)
  says_all (Links i) = count_by i (m (Inode i)) refl

-- the image of a store of such metadata breaks no rule of settings or of the tree, and says just what the store has
pub is_kept : (kv : Store Key Value) (s : Settings) (next_tx : ℕ) (bytes : List ℕ) → IsSaveOf kv s next_tx bytes → AreSettings s.servers s.replicas s.region
    → kv.number ≤ 2 ^ 62 → next_tx ≤ 2 ^ 62 → IsSavable s.region next_tx (shown kv) → IsKept kv s next_tx bytes
is_kept kv s next_tx bytes save limits number last savable =
    let x = save.rows in
    let form = save.text.shape in
    let m = shown kv in
    let says = save.says in
    let h : header_of s kv.number next_tx ≡ x.header = sym save.header in
    let region : s.region ≡ x.header.region = ap (λ (h : Header). h.region) h in
    let tx : next_tx ≡ x.header.next_tx = ap (λ (h : Header). h.next_tx) h in
    record {
      rows = x;
      text = save.text;
      header = save.header;
      good = record {
        settings = subst (λ (h : Header). AreSettings h.servers h.replicas h.region) h limits;
        installs = subst (λ (h : Header). h.installs ≤ 2 ^ 62) h number;
        next_tx = subst (λ (h : Header). h.next_tx ≤ 2 ^ 62) h last;
        some = subst (λ (h : Header). 0 < h.next_tx) h savable.begun;
        paths = subst (λ n. list_all (λ r. is_node_before n r.node) x.paths ≡ true) tx (paths_before_good s.region next_tx m savable x form says);
        files = subst (λ n. list_all (λ f. is_before n f.inode) x.files ≡ true) tx (files_before_good s.region next_tx m savable x form says);
      };
      tree = record {
        top = top_good s.region next_tx m savable x form says;
        parents = parents_good s.region next_tx m savable x form says;
        named = named_all s.region next_tx m savable x form says save.version;
        recorded = recorded_good s.region next_tx m savable x form says;
        files = subst (λ c. list_all (is_good_file c) x.files ≡ true) region (files_good s.region next_tx m savable x form says);
      };
      map = says_all s.region next_tx m savable x form says;
    }

-- what is loaded of it is the same
pub reads_back : (kv : Store Key Value) (s : Settings) (next_tx : ℕ) (bytes : List ℕ) (lost : ℕ → Bool) (size : ℕ → ℕ → ℕ) (l : Loaded)
    → IsKept kv s next_tx bytes → IsLoadWithout lost size bytes l → IsSameAs kv s next_tx l
reads_back kv s next_tx bytes lost size l kept load =
    let same : kept.rows ≡ load.rows = (one_image kept.rows load.rows [] kept.text.shape load.taken.text.shape
    (sym load.taken.text.text ∙ kept.text.text ∙ sym (append-nil (image_text kept.rows)))).0 in
    let header : load.rows.header ≡ header_of s kv.number next_tx = sym (ap (λ (x : ImageRows). x.header) same) ∙ kept.header in
    let each : (q : Key) → metadata_at l.kv l.kv.number q ≡ metadata_at kv kv.number q = λ q.
    same_optional (metadata_at l.kv l.kv.number q) (metadata_at kv kv.number q)
    (load.store.map q ∙ sym (ap (λ (x : ImageRows). row_at x q) same) ∙ kept.map q) in
    record {
      number = load.store.number ∙ ap (λ (h : Header). h.installs) header;
      pins = load.store.pins;
      map = λ i q. each q i;
      servers = load.settings.servers ∙ ap (λ (h : Header). h.servers) header;
      replicas = load.settings.replicas ∙ ap (λ (h : Header). h.replicas) header;
      region = load.settings.region ∙ ap (λ (h : Header). h.region) header;
      next = load.next_tx ∙ ap (λ (h : Header). h.next_tx) header;
    }

-- a refusal of it names a pointer outside the stores, unless memory ran out
pub refused_only : (kv : Store Key Value) (s : Settings) (next_tx : ℕ) (bytes : List ℕ) (lost : ℕ → Bool) (size : ℕ → ℕ → ℕ) (why : LoadError)
    → IsKept kv s next_tx bytes → IsRefusalWithout lost size bytes why → IsPointerOrMemory why
refused_only kv s next_tx bytes lost size error.NotAnImage kept refusal = absurd (refusal kept.rows kept.text)
refused_only kv s next_tx bytes lost size error.BadSettings kept refusal =
    let same : kept.rows ≡ refusal.rows = (one_image kept.rows refusal.rows [] kept.text.shape refusal.text.shape
    (sym refusal.text.text ∙ kept.text.text ∙ sym (append-nil (image_text kept.rows)))).0 in
    absurd (refusal.bad (subst AreGoodSettings same kept.good))
refused_only kv s next_tx bytes lost size error.BadTree kept refusal =
    let same : kept.rows ≡ refusal.rows = (one_image kept.rows refusal.rows [] kept.text.shape refusal.text.shape
    (sym refusal.text.text ∙ kept.text.text ∙ sym (append-nil (image_text kept.rows)))).0 in
    absurd (refusal.bad (subst IsGoodTree same kept.tree))
refused_only kv s next_tx bytes lost size error.PointerOutside kept refusal = tt
refused_only kv s next_tx bytes lost size error.Memory kept refusal = tt
