-- An image at the number of a store is there, where its paths and files can be counted: each row has the widths that the image at a number
-- before, or the changes since then, had for it.
use Rattle.std.proofs.Common.{◌≡◌, ◌+◌, ◌<◌, ◌≤◌, ◌^◌, ◌++◌, ◌∙◌, ℕ, zero, suc, Bool, true, false, cond, nat_lt, List, [], ◌∷◌, map, length, Option, None, Some}
use Rattle.std.proofs.Common.{refl, sym, ap, subst, inl, inr, arith}
use Rattle.std.specs.Prelude.{IsSome, IsTrue}
use Rattle.std.specs.FinMap.Entries.{find}
use Rattle.std.specs.List.{AllByRecursion}
use Rattle.std.specs.Option.{option_map}
use Rattle.std.specs.Ordering.{eq_by_cmp, nat_cmp}
use Rattle.std.specs.Cmp.Lexicographic.{slice_cmp}
use Rattle.std.specs.declared.cmp.Ordering.{Ordering}
use Rattle.std.proofs.lemmas.Bool.{cases_Bool, cases_lt, ltb-false}
use Rattle.std.proofs.lemmas.List.{length_push}
use Rattle.wtf_base.specs.declared.ids.InodeId.{InodeId}
use Rattle.wtf_base.specs.declared.settings.Settings.{Settings}
use Rattle.wtf_kv.specs.Stores.{Store, is_pinned, version_of}
use Rattle.wtf_kv.proofs.VersionLaws.{unmoved}
use Rattle.wtf_path.specs.Grammar.{IsPath}
use Rattle.wtf_spillfmt.proofs.Codecs.{some_is}
use Rattle.wtf_values.specs.Keys.{inode_cmp, key_cmp}
use Rattle.wtf_values.specs.declared.key.Key.{Key}
use Rattle.wtf_values.specs.declared.key.Key.TheVariants.{Inode, Path, Region}
use Rattle.wtf_values.specs.declared.value.Value.{Value}
use Rattle.wtf_imagefmt.specs.declared.records.Header.{Header}
use Rattle.wtf_imagefmt.specs.declared.records.PathRecord.{PathRecord}
use Rattle.wtf_imagefmt.specs.Lookups.{CountIs, LastIs, NamesAre, NodeIs, Plain, RegionIs, path_entry, place_cmp, plain, node_at}
use Rattle.wtf_imagefmt.specs.declared.records.Version.TheVariants.{Two}
use Rattle.wtf_imagefmt.specs.Rows.{FileRow, ImageRows, RegionRow, ValueRow}
use Rattle.wtf_imagefmt.specs.Savable.{IsLastValue, IsSavable}
use Rattle.wtf_imagefmt.specs.Saving.{file_at, file_entry, file_with, header_of, last_now, node_now, region_in, region_now, regions_below, with_one}
use Rattle.wtf_imagefmt.specs.Shapes.{IsFileRow, IsHeader, IsInode, IsNode, IsPathRow, IsRegion, IsValue}
use Rattle.wtf_imagefmt.specs.Shown.{Shown, shown, shown_at}
use Rattle.wtf_imagefmt.specs.Writing.{IsWideFile}
use Rattle.wtf_imagefmt.proofs.Gathered.{image_form}
use Rattle.wtf_image.proofs.SaveFiles.{each_file}
use Rattle.wtf_image.proofs.SaveTree.{all_weaker, each_found, tie_same}
use Rattle.wtf_changes.specs.Counted.{CanBeCounted}
use Rattle.wtf_changes.specs.Drafts.{node_change, value_of}
use Rattle.wtf_changes.specs.Law.{IsPictureOf}
use Rattle.wtf_changes.specs.Rows.{ChangeRows}
use Rattle.wtf_changes.specs.Shapes.{AreChanges, IsValueHeld, IsRegionRow, IsStanding}
use Rattle.wtf_changes.specs.Shapes.{IsFileRow as IsFileChange, IsPathRow as IsPathChange}
use Rattle.wtf_changes.specs.Since.{AreChangesOf, due, last_change, value_change, value_now}
use Rattle.wtf_changes.proofs.Files.{tied_inode}

-- ---- what is found among rows is one of them
record IsFound {A K X : Type 0} (R : K → K → Ordering) (entry : A → K × X) (P : A → Type 0) (q : K) (v : X) : Type 0 where
  row : A
  has : P row
  tie : eq_by_cmp R q (entry row).0 ≡ true
  value : (entry row).1 ≡ v

found_row : {A K X : Type 0} (R : K → K → Ordering) (entry : A → K × X) (P : A → Type 0) (q : K) (v : X) (xs : List A) → AllByRecursion P xs
    → find R q (map entry xs) ≡ Some v → IsFound R entry P q v
found_row R entry P q v [] h e = absurd (cc)
found_row R entry P q v (x ∷ xs) h e = elim (cases_Bool (eq_by_cmp R q (entry x).0)) [
  | inl t ↦ record {
    row = x;
    has = h.0;
    tie = t;
    value = some_is (entry x).1 v (sym (ap (λ b. cond b (Some (entry x).1) (find R q (map entry xs))) t) ∙ e);
  }
  | inr t ↦ found_row R entry P q v xs h.1 (sym (ap (λ b. cond b (Some (entry x).1) (find R q (map entry xs))) t) ∙ e)
]

-- ---- values of keys
is_last : (o : Option Plain) → IsLastValue o → IsSome o → (n : ℕ) × (o ≡ Some (LastIs n))
is_last None kind some = absurd (cc)
is_last (Some (NodeIs n)) kind some = absurd kind
is_last (Some (NamesAre names)) kind some = absurd kind
is_last (Some (CountIs n)) kind some = absurd kind
is_last (Some (LastIs n)) kind some = (n, refl)
is_last (Some (RegionIs end base entries)) kind some = absurd kind

last_is : (o : Option Plain) (n : ℕ) → last_now o ≡ Some n → o ≡ Some (LastIs n)
last_is None n e = absurd (cc)
last_is (Some (NodeIs k)) n e = absurd (cc)
last_is (Some (NamesAre names)) n e = absurd (cc)
last_is (Some (CountIs c)) n e = absurd (cc)
last_is (Some (LastIs k)) n e = ap (λ j. Some (LastIs j)) (some_is k n e)
last_is (Some (RegionIs end base entries)) n e = absurd (cc)

value_some : (o : Option Plain) (v : ValueRow) → value_now o ≡ Some v → IsSome o
value_some None v e = absurd (cc)
value_some (Some p) v e = refl

none_some : (o : Option Plain) → o ≡ None → IsSome o → ⊥
none_some None e h = absurd (cc)
none_some (Some p) e h = absurd (cc)

-- the row of a region has its value
record IsRowOf (r : ℕ) (o : Option Plain) (row : RegionRow) : Type 0 where
  number : row.number ≡ r
  value : value_now o ≡ Some (value_of row)

row_is : (r : ℕ) (o : Option Plain) (row : RegionRow) → region_now r o ≡ Some row → IsRowOf r o row
row_is r None row e = absurd (cc)
row_is r (Some (NodeIs n)) row e = absurd (cc)
row_is r (Some (NamesAre names)) row e = absurd (cc)
row_is r (Some (CountIs n)) row e = absurd (cc)
row_is r (Some (LastIs n)) row e = absurd (cc)
row_is r (Some (RegionIs end base entries)) row e =
    subst (IsRowOf r (Some (RegionIs end base entries))) (some_is (record { number = r; end = end; base = base; entries = entries }) row e)
    (record { number = refl; value = refl })

value_row : (r : ℕ) (o : Option Plain) (v : ValueRow) → value_now o ≡ Some v → (row : RegionRow) × (region_now r o ≡ Some row) × (value_of row ≡ v)
value_row r None v e = absurd (cc)
value_row r (Some (NodeIs n)) v e = absurd (cc)
value_row r (Some (NamesAre names)) v e = absurd (cc)
value_row r (Some (CountIs n)) v e = absurd (cc)
value_row r (Some (LastIs n)) v e = absurd (cc)
value_row r (Some (RegionIs end base entries)) v e =
    (record { number = r; end = end; base = base; entries = entries }, refl, some_is (record { end = end; base = base; entries = entries }) v e)

region_value : (row : RegionRow) → IsRegion row → IsValue (value_of row)
region_value row h = record { end = h.end; base = h.base; count = h.count; entries = h.entries }

value_region : (row : RegionRow) → row.number < 2 ^ 16 → IsValue (value_of row) → IsRegion row
value_region row number h = record { number = number; end = h.end; base = h.base; count = h.count; entries = h.entries }

-- ---- the regions below a number
module _ (now : ℕ → Option RegionRow) (P : RegionRow → Type 0) where
  front : (xs : List RegionRow) (o : Option RegionRow) → AllByRecursion P (with_one xs o) → AllByRecursion P xs
  front xs None h = h
  front [] (Some row) h = tt
  front (x ∷ xs) (Some row) h = (h.0, front xs (Some row) h.1)

  last : (xs : List RegionRow) (row : RegionRow) → AllByRecursion P (xs ++ row ∷ []) → P row
  last [] row h = h.0
  last (x ∷ xs) row h = last xs row h.1

  more : (xs : List RegionRow) (row : RegionRow) → AllByRecursion P xs → P row → AllByRecursion P (xs ++ row ∷ [])
  more [] row h one = (one, tt)
  more (x ∷ xs) row h one = (h.0, more xs row h.1 one)

  below_has : (n r : ℕ) (row : RegionRow) → r < n → now r ≡ Some row → AllByRecursion P (regions_below now n) → P row
  below_has zero r row lt e h = absurd (omega (arith, lt))
  below_has (suc n) r row lt e h = elim (cases_lt r n) [
    | inl less ↦ below_has n r row less e (front (regions_below now n) (now n) h)
    | inr le ↦
        let same : n ≡ r = omega (arith, lt, le) in
        last (regions_below now n) row (subst (λ o. AllByRecursion P (with_one (regions_below now n) o)) (ap now same ∙ e) h)
  ]

  below_each : (n : ℕ) → ((r : ℕ) (row : RegionRow) → r < n → now r ≡ Some row → P row) → AllByRecursion P (regions_below now n)
  below_each zero each = tt
  below_each (suc n) each = one (regions_below now n) (now n) refl (below_each n (λ r row lt e. each r row (omega (arith, lt)) e))
    where
      one : (xs : List RegionRow) (o : Option RegionRow) → now n ≡ o → AllByRecursion P xs → AllByRecursion P (with_one xs o)
      one xs None e h = h
      one xs (Some row) e h = more xs row h (each n row (omega arith) e)

count_below : (now : ℕ → Option RegionRow) (n : ℕ) → length (regions_below now n) ≤ n
count_below now zero = omega arith
count_below now (suc n) = one (regions_below now n) (now n) (count_below now n)
  where
    one : (xs : List RegionRow) (o : Option RegionRow) → length xs ≤ n → length (with_one xs o) ≤ suc n
    one xs None le = omega (arith, le)
    one xs (Some row) le = let longer : length (xs ++ row ∷ []) ≡ length xs + 1 = length_push xs row in omega (arith, le, longer)

-- ---- the image
module _ (kv : Store Key Value) (since : ℕ) (s : Settings) (before next : ℕ) (x : ImageRows) (ch : ChangeRows) (pinned : IsTrue (is_pinned kv since))
    (upto : since ≤ kv.number) (old : IsPictureOf (shown_at kv since) s since before x) (are : AreChanges ch) (of : AreChangesOf kv since next ch)
    (counted : CanBeCounted (shown kv)) (savable : IsSavable s.region next (shown kv)) where
  abbrev m0 : Shown
  m0 = shown_at kv since

  abbrev m1 : Shown
  m1 = shown kv

  abbrev is_due : Key → Bool
  is_due q = nat_lt since (version_of key_cmp kv kv.number q)

  stays : (q : Key) → is_due q ≡ false → m0 q ≡ m1 q
  stays q e = ap (option_map plain) (unmoved key_cmp kv since kv.number q pinned upto (ltb-false _ _ e))

  named : {A : Type 0} (q : Key) (now : Option A) (v : A) → is_due q ≡ true → now ≡ Some v → due kv since q now ≡ Some (Some v)
  named q now v t e = ap (λ b. cond b (Some now) None) t ∙ ap (λ o. Some o) e

  path_ok : (r : PathRecord) → node_now (m1 (Path r.path)) ≡ Some r.node → IsPathRow r
  path_ok r e = elim (cases_Bool (is_due (Path r.path))) [
    | inl t ↦
        let f = found_row (slice_cmp nat_cmp) node_change IsPathChange r.path (Some r.node) ch.paths are.paths.each
        (of.paths r.path ∙ named (Path r.path) (node_now (m1 (Path r.path))) r.node t e) in
        record { path = subst IsPath (sym (tie_same r.path f.row.path f.tie)) f.has.path; node = subst IsStanding f.value f.has.node }
    | inr t ↦
        let f = found_row (slice_cmp nat_cmp) path_entry IsPathRow r.path r.node x.paths old.shape.paths.each
        (old.says.paths r.path ∙ ap node_now (stays (Path r.path) t) ∙ e) in
        record { path = subst IsPath (sym (tie_same r.path f.row.path f.tie)) f.has.path; node = subst IsNode f.value f.has.node }
  ]

  paths_ok : AllByRecursion IsPathRow counted.0.rows
  paths_ok =
      all_weaker (λ (r : PathRecord). node_at counted.0.rows r.path ≡ Some r.node) IsPathRow (λ r e. path_ok r (sym (counted.0.are.each r.path) ∙ e))
      counted.0.rows (each_found counted.0.rows counted.0.are.ascend)

  inode_ok : (i : InodeId) (n : ℕ) → last_now (m1 (Inode i)) ≡ Some n → IsInode i
  inode_ok i n e = elim (cases_Bool (is_due (Inode i))) [
    | inl t ↦
        let f = found_row inode_cmp last_change IsFileChange i (Some n) ch.files are.files.each
        (of.files i ∙ named (Inode i) (last_now (m1 (Inode i))) n t e) in
        subst IsInode (sym (tied_inode i f.row.inode f.tie)) f.has.inode
    | inr t ↦
        let f = found_row inode_cmp file_entry IsFileRow i (file_with m0 i n) x.files old.shape.files.each
        (old.says.files i ∙ ap (option_map (file_with m0 i)) (ap last_now (stays (Inode i) t) ∙ e)) in
        subst (λ (g : FileRow). IsInode g.inode) f.value f.has.inode
  ]

  -- a region that was there before has its row in the image
  was_ok : (i : InodeId) (r : ℕ) (v : ValueRow) → value_now (m0 (Region i r)) ≡ Some v → IsValue v
  was_ok i r v e =
      let there : IsSome (m0 (Region i r)) = value_some (m0 (Region i r)) v e in
      let end = is_last (m0 (Inode i)) (old.savable.lasts i) (old.savable.owned i r there) in
      let f = found_row inode_cmp file_entry IsFileRow i (file_with m0 i end.0) x.files old.shape.files.each
      (old.says.files i ∙ ap (λ o. option_map (file_with m0 i) (last_now o)) end.1) in
      let row = value_row r (m0 (Region i r)) v e in
      let rows : AllByRecursion IsRegion (regions_below (region_in m0 i) (end.0 + 1)) =
      subst (λ (g : FileRow). AllByRecursion IsRegion g.regions) f.value f.has.regions in
      let upto : r < end.0 + 1 = elim (cases_lt end.0 r) [
        | inl past ↦ absurd (none_some (m0 (Region i r)) (old.savable.above i end.0 r end.1 past) there)
        | inr le ↦ omega (arith, le)
      ] in
      subst IsValue row.2 (region_value row.0 (below_has (region_in m0 i) IsRegion (end.0 + 1) r row.0 upto row.1 rows))

  value_ok : (i : InodeId) (r : ℕ) (v : ValueRow) → value_now (m1 (Region i r)) ≡ Some v → IsValue v
  value_ok i r v e = elim (cases_Bool (is_due (Region i r))) [
    | inl t ↦
        let f = found_row place_cmp value_change IsRegionRow (i, r) (Some v) ch.regions are.regions.each
        (of.regions i r ∙ named (Region i r) (value_now (m1 (Region i r))) v t e) in
        subst IsValueHeld f.value f.has.value
    | inr t ↦ was_ok i r v (ap value_now (stays (Region i r) t) ∙ e)
  ]

  region_ok : (i : InodeId) (r : ℕ) (row : RegionRow) → r < 4096 → region_in m1 i r ≡ Some row → IsRegion row
  region_ok i r row few e =
      let is = row_is r (m1 (Region i r)) row e in
      let number = is.number in value_region row (omega (arith, few, number)) (value_ok i r (value_of row) is.value)

  with_ok : (i : InodeId) (n : ℕ) → last_now (m1 (Inode i)) ≡ Some n → IsWideFile (file_with m1 i n)
  with_ok i n e =
      let few : n < 4096 = savable.few i n (last_is (m1 (Inode i)) n e) in
      let count = count_below (region_in m1 i) (n + 1) in
      record {
        inode = inode_ok i n e;
        last = omega (arith, few);
        regions = (
          omega (arith, few, count),
          below_each (region_in m1 i) IsRegion (n + 1) (λ r row lt is. region_ok i r row (omega (arith, lt, few)) is),
        );
      }

  file_ok : (f : FileRow) → file_at counted.1.rows f.inode ≡ Some f → IsWideFile f
  file_ok f e = by (last_now (m1 (Inode f.inode))) refl (sym (counted.1.are.each f.inode) ∙ e)
    where
      by : (o : Option ℕ) → last_now (m1 (Inode f.inode)) ≡ o → option_map (file_with m1 f.inode) o ≡ Some f → IsWideFile f
      by None none is = absurd (cc)
      by (Some n) some is = subst IsWideFile (some_is (file_with m1 f.inode n) f is) (with_ok f.inode n some)

  files_ok : AllByRecursion IsWideFile counted.1.rows
  files_ok =
      all_weaker (λ (f : FileRow). file_at counted.1.rows f.inode ≡ Some f) IsWideFile file_ok counted.1.rows
      (each_file counted.1.rows counted.1.are.ascend)

  module _ (number : kv.number ≤ 2 ^ 62) (few : next ≤ 2 ^ 62) where
    abbrev header : Header
    header = header_of s kv.number next

    header_ok : IsHeader header
    header_ok =
        let was : IsHeader (header_of s since before) = subst IsHeader old.header old.shape.header in
        record { servers = was.servers; replicas = was.replicas; region = was.region; installs = omega (arith, number); next_tx = omega (arith, few) }

    abbrev made : ImageRows
    made = record { version = Two; header = header; paths = counted.0.rows; files = counted.1.rows }

    pub image_at_number : (z : ImageRows) × IsPictureOf (shown kv) s kv.number next z × (z.version ≡ Two)
    image_at_number = (
      made,
      record {
        savable = savable;
        shape = image_form made (record { header = header_ok; paths = (counted.0.few, paths_ok); files = (counted.1.few, files_ok) }) counted.0.are.ascend
            counted.1.are.ascend counted.1.are.regions;
        says = record { paths = counted.0.are.each; files = counted.1.are.each };
        header = refl;
      },
      refl,
    )
