-- The records of paths and of files, gathered by walks over the keys of a store.
use Rattle.std.proofs.Common.{◌≡◌, ℕ, zero, suc, ◌+◌, ◌<◌, Bool, true, false, cond, ◌&&◌, List, [], ◌∷◌, ◌++◌, map, Option, None, Some, refl, sym, ap, subst}
use Rattle.std.proofs.Common.{◌∙◌, append_assoc, arith}
use Rattle.std.specs.List.{AllByRecursion}
use Rattle.std.specs.List.Sorted.{IsStrictlySortedBy}
use Rattle.std.specs.Map.{lookup, keys_of}
use Rattle.std.specs.Option.{option_map}
use Rattle.std.specs.FinMap.{slice_cmp-IsAntisymmetric, nat_cmp-IsAntisymmetric}
use Rattle.std.specs.FinMap.Entries.{find}
use Rattle.std.specs.Ordering.{nat_cmp, is_lt, is_le, ordering_then}
use Rattle.std.specs.Cmp.Lexicographic.{slice_cmp}
use Rattle.std.specs.BTreeMap.{is_at}
use Rattle.std.specs.BTreeMap.Range.{is_from_start}
use Rattle.std.specs.declared.cmp.Ordering.{Ordering}
use Rattle.std.specs.declared.cmp.Ordering.TheVariants.{Less, Equal, Greater}
use Rattle.std.specs.declared.ops.Bound.{Bound}
use Rattle.std.specs.declared.ops.Bound.TheVariants.{Included, Unbounded}
use Rattle.std.proofs.lemmas.Bool.{lt-ltb}
use Rattle.std.proofs.lemmas.Bool.Decides.{nat_tests}
use Rattle.std.proofs.lemmas.List.{map-append}
use Rattle.std.proofs.lemmas.Map.Keys.{sorted_head, sorted_tail}
use Rattle.wtf_base.specs.declared.ids.InodeId.{InodeId}
use Rattle.wtf_kv.specs.Stores.{Store, map_at}
use Rattle.wtf_kv.specs.Walks.{AreRowsFrom, with_row}
use Rattle.wtf_values.specs.Keys.{key_cmp, inode_cmp, same_inode}
use Rattle.wtf_values.specs.declared.key.Key.{Key}
use Rattle.wtf_values.specs.declared.key.Key.TheVariants.{Path, Dir, Inode, Region, Links}
use Rattle.wtf_values.specs.declared.value.Node.{Node}
use Rattle.wtf_values.specs.declared.value.Value.{Value}
use Rattle.wtf_spillfmt.proofs.Codecs.{some_is}
use Rattle.wtf_imagefmt.specs.declared.records.PathRecord.{PathRecord}
use Rattle.wtf_imagefmt.specs.Rows.{RegionRow, FileRow, ImageRows}
use Rattle.wtf_imagefmt.specs.Shapes.{ascends, ascends_from, path_before, file_before, region_before, IsFileRow, IsImage}
use Rattle.wtf_imagefmt.specs.Writing.{IsWideFile, IsWide}
use Rattle.wtf_imagefmt.specs.Lookups.{Plain, NodeIs, NamesAre, LastIs, RegionIs, CountIs, plain, path_entry}
use Rattle.wtf_imagefmt.specs.Shapes.{AreRegionsAscending}
use Rattle.wtf_imagefmt.specs.Shown.{Shown, shown}
use Rattle.wtf_imagefmt.specs.Saving.{node_now, last_now, region_now, with_one, regions_below, region_in, file_with, file_now, file_entry, path_due, file_due}
use Rattle.wtf_imagefmt.specs.Saving.{ArePathsOf, AreFilesOf}
use Rattle.wtf_imagefmt.proofs.Walking.{Kind, Gathered, picked, Walked, walk_begins, walk_goes_on, walk_stops, walk_ends}

abbrev S : Type 0
S = Store Key Value

abbrev KeyRows : Type 0
KeyRows = List (Key × Value)

-- ---- what both walks need

and_both : (a b : Bool) → (a && b) ≡ true → (a ≡ true) × (b ≡ true)
and_both true b h = (refl, h)
and_both false b h = absurd (cc)

module _ {A K X : Type 0} (order : K → K → Ordering) (entry : A → K × X) where
  rising_from : (x : A) (ys : List A) → IsStrictlySortedBy order (keys_of (map entry (x ∷ ys)))
      → ascends_from (λ a b. is_lt (order (entry a).0 (entry b).0)) x ys ≡ true
  rising_from x [] h = refl
  rising_from x (y ∷ ys) h =
      let lt : is_lt (order (entry x).0 (entry y).0) ≡ true = ap is_lt (sorted_head order (entry x).0 (keys_of (map entry (y ∷ ys))) h).0 in
      ap (λ b. b && ascends_from (λ a b. is_lt (order (entry a).0 (entry b).0)) y ys) lt
      ∙ rising_from y ys (sorted_tail order (entry x).0 (keys_of (map entry (y ∷ ys))) h)

  rising : (xs : List A) → IsStrictlySortedBy order (keys_of (map entry xs)) → ascends (λ a b. is_lt (order (entry a).0 (entry b).0)) xs ≡ true
  rising [] h = refl
  rising (x ∷ xs) h = rising_from x xs h

find-lookup : {K X : Type 0} (order : K → K → Ordering) (q : K) (es : List (K × X)) → find order q es ≡ lookup (is_at (order q)) es
find-lookup order q [] = refl
find-lookup order q (e ∷ es) = ap (cond (is_at (order q) e.0) (Some e.1)) (find-lookup order q es)

-- ---- paths

pub same_path : (p q : List ℕ) → slice_cmp nat_cmp p q ≡ Equal → p ≡ q
same_path = slice_cmp-IsAntisymmetric nat_cmp-IsAntisymmetric

abbrev as_path : Key → Option (List ℕ)
as_path (Path p) = Some p
as_path (Dir d) = None
as_path (Inode i) = None
as_path (Region i r) = None
as_path (Links i) = None

pub is_path : (q : Key) (p : List ℕ) → as_path q ≡ Some p → q ≡ Path p
is_path (Path q) p h = ap Path (some_is q p h)
is_path (Dir d) p h = absurd (cc)
is_path (Inode i) p h = absurd (cc)
is_path (Region i r) p h = absurd (cc)
is_path (Links i) p h = absurd (cc)

pub not_path : (q : Key) → ((p : List ℕ) → q ≡ Path p → ⊥) → as_path q ≡ None
not_path (Path p) h = absurd (h p refl)
not_path (Dir d) h = refl
not_path (Inode i) h = refl
not_path (Region i r) h = refl
not_path (Links i) h = refl

-- paths are the least of the keys
pub no_path_later : (p q : Key) → as_path p ≡ None → key_cmp p q ≡ Less → as_path q ≡ None
no_path_later p (Dir e) off lt = refl
no_path_later p (Inode j) off lt = refl
no_path_later p (Region j s) off lt = refl
no_path_later p (Links j) off lt = refl
no_path_later (Path p) (Path q) off lt = absurd (cc)
no_path_later (Dir d) (Path q) off lt = absurd (cc)
no_path_later (Inode i) (Path q) off lt = absurd (cc)
no_path_later (Region i r) (Path q) off lt = absurd (cc)
no_path_later (Links i) (Path q) off lt = absurd (cc)

abbrev paths : Kind (List ℕ)
paths = record {
  order = slice_cmp nat_cmp;
  exact = same_path;
  key = Path;
  of_key = as_path;
  alike = λ p q. refl;
  back = λ p. refl;
  only = is_path;
  start = Unbounded;
  begins = λ p. refl;
  ends = λ p q from. no_path_later p q;
}

abbrev node_told : List ℕ → Option Plain → Option Node
node_told p o = node_now o

abbrev node_of : S → List ℕ → Option Node
node_of kv p = node_now (shown kv (Path p))

abbrev pub PathsWalked : S → List PathRecord → KeyRows → Type 0
PathsWalked kv rs left = Walked paths node_told (node_of kv) (map path_entry rs) left

abbrev path_record : List ℕ → Node → PathRecord
path_record p n = record { path = p; node = n }

path_entries : (rs : List PathRecord) (p : List ℕ) (o : Option Node) (rest : List (List ℕ × Node))
    → map path_entry (with_one rs (option_map (path_record p) o)) ++ rest ≡ map path_entry rs ++ with_row p o rest
path_entries rs p None rest = refl
path_entries rs p (Some n) rest = ap (λ l. l ++ rest) (map-append path_entry rs (path_record p n ∷ [])) ∙ append_assoc (map path_entry rs) ((p, n) ∷ []) rest

paths_end : (kv : S) (rs : List PathRecord) → Gathered (slice_cmp nat_cmp) (node_of kv) (map path_entry rs) → ArePathsOf (shown kv) rs
paths_end kv rs all = record {
  ascend = rising (slice_cmp nat_cmp) path_entry rs all.sorted;
  each = λ p. find-lookup (slice_cmp nat_cmp) p (map path_entry rs) ∙ all.each p;
}

module _ (kv : S) where
  pub paths_begin : (left : KeyRows) → AreRowsFrom key_cmp Unbounded (map_at key_cmp kv kv.number) left → PathsWalked kv [] left
  paths_begin left are = walk_begins paths node_told (λ p. refl) kv left are

  pub paths_go_on : (rs : List PathRecord) (p : List ℕ) (v : Value) (left rest : KeyRows) → left ≡ (Path p, v) ∷ rest → PathsWalked kv rs left
      → PathsWalked kv (with_one rs (path_due p v)) rest
  paths_go_on rs p v left rest is walked =
      walk_goes_on paths node_told (node_of kv) (map path_entry rs) p v (map path_entry (with_one rs (path_due p v))) left rest is
      (path_entries rs p (node_now (Some (plain v))) (picked paths node_told rest)) walked

  pub paths_stop : (rs : List PathRecord) (e : Key × Value) (left rest : KeyRows) → left ≡ e ∷ rest → as_path e.0 ≡ None → PathsWalked kv rs left
      → ArePathsOf (shown kv) rs
  paths_stop rs e left rest is off walked = paths_end kv rs (walk_stops paths node_told (node_of kv) (map path_entry rs) e left rest is off walked)

  pub all_paths : (rs : List PathRecord) (left : KeyRows) → left ≡ [] → PathsWalked kv rs left → ArePathsOf (shown kv) rs
  all_paths rs left is walked = paths_end kv rs (walk_ends paths node_told (node_of kv) (map path_entry rs) left is walked)

-- ---- files

abbrev as_inode : Key → Option InodeId
as_inode (Path p) = None
as_inode (Dir d) = None
as_inode (Inode i) = Some i
as_inode (Region i r) = None
as_inode (Links i) = None

pub is_inode : (q : Key) (i : InodeId) → as_inode q ≡ Some i → q ≡ Inode i
is_inode (Path p) i h = absurd (cc)
is_inode (Dir d) i h = absurd (cc)
is_inode (Inode j) i h = ap Inode (some_is j i h)
is_inode (Region j r) i h = absurd (cc)
is_inode (Links j) i h = absurd (cc)

pub not_inode : (q : Key) → ((i : InodeId) → q ≡ Inode i → ⊥) → as_inode q ≡ None
not_inode (Path p) h = refl
not_inode (Dir d) h = refl
not_inode (Inode i) h = absurd (h i refl)
not_inode (Region i r) h = refl
not_inode (Links i) h = refl

abbrev pub first_inode : Bound Key
first_inode = Included (Inode (record { tx = record { 0 = 0 }; index = 0 }))

le_then : (a b : Ordering) → is_le a ≡ true → is_le b ≡ true → is_le (ordering_then a b) ≡ true
le_then Less b h k = refl
le_then Equal b h k = k
le_then Greater b h k = absurd (cc)

zero_le : (n : ℕ) → is_le (nat_cmp 0 n) ≡ true
zero_le n = grind (arith, nat_tests)

pub inode_begins : (i : InodeId) → is_from_start key_cmp first_inode (Inode i) ≡ true
inode_begins i = le_then (nat_cmp 0 i.tx.0) (nat_cmp 0 i.index) (zero_le i.tx.0) (zero_le i.index)

-- only regions and numbers of paths come behind inodes
pub no_inode_later : (p q : Key) → is_from_start key_cmp first_inode p ≡ true → as_inode p ≡ None → key_cmp p q ≡ Less → as_inode q ≡ None
no_inode_later p (Path q) from off lt = refl
no_inode_later p (Dir e) from off lt = refl
no_inode_later p (Region j s) from off lt = refl
no_inode_later p (Links j) from off lt = refl
no_inode_later (Path p) (Inode j) from off lt = absurd (cc)
no_inode_later (Dir d) (Inode j) from off lt = absurd (cc)
no_inode_later (Inode i) (Inode j) from off lt = absurd (cc)
no_inode_later (Region i r) (Inode j) from off lt = absurd (cc)
no_inode_later (Links i) (Inode j) from off lt = absurd (cc)

abbrev inodes : Kind InodeId
inodes = record {
  order = inode_cmp;
  exact = same_inode;
  key = Inode;
  of_key = as_inode;
  alike = λ i j. refl;
  back = λ i. refl;
  only = is_inode;
  start = first_inode;
  begins = inode_begins;
  ends = no_inode_later;
}

abbrev file_told : Shown → InodeId → Option Plain → Option FileRow
file_told m i o = option_map (file_with m i) (last_now o)

abbrev pub FilesWalked : S → List FileRow → KeyRows → Type 0
FilesWalked kv fs left = Walked inodes (file_told (shown kv)) (file_now (shown kv)) (map file_entry fs) left

file_entries : (m : Shown) (fs : List FileRow) (i : InodeId) (o : Option ℕ) (rest : List (InodeId × FileRow))
    → map file_entry (with_one fs (option_map (file_with m i) o)) ++ rest ≡ map file_entry fs ++ with_row i (option_map (file_with m i) o) rest
file_entries m fs i None rest = refl
file_entries m fs i (Some n) rest = ap (λ l. l ++ rest) (map-append file_entry fs (file_with m i n ∷ []))
    ∙ append_assoc (map file_entry fs) ((i, file_with m i n) ∷ []) rest

files_end : (kv : S) (fs : List FileRow) → AreRegionsAscending fs → Gathered inode_cmp (file_now (shown kv)) (map file_entry fs) → AreFilesOf (shown kv) fs
files_end kv fs regions all = record {
  ascend = rising inode_cmp file_entry fs all.sorted;
  regions = regions;
  each = λ i. find-lookup inode_cmp i (map file_entry fs) ∙ all.each i;
}

module _ (kv : S) where
  pub files_begin : (left : KeyRows) → AreRowsFrom key_cmp first_inode (map_at key_cmp kv kv.number) left → FilesWalked kv [] left
  files_begin left are = walk_begins inodes (file_told (shown kv)) (λ i. refl) kv left are

  pub files_go_on : (fs : List FileRow) (i : InodeId) (v : Value) (left rest : KeyRows) → left ≡ (Inode i, v) ∷ rest → FilesWalked kv fs left
      → FilesWalked kv (with_one fs (file_due (shown kv) i v)) rest
  files_go_on fs i v left rest is walked =
      walk_goes_on inodes (file_told (shown kv)) (file_now (shown kv)) (map file_entry fs) i v
      (map file_entry (with_one fs (file_due (shown kv) i v))) left rest is
      (file_entries (shown kv) fs i (last_now (Some (plain v))) (picked inodes (file_told (shown kv)) rest)) walked

  pub files_stop : (fs : List FileRow) (e : Key × Value) (left rest : KeyRows) → left ≡ e ∷ rest → as_inode e.0 ≡ None → AreRegionsAscending fs
      → FilesWalked kv fs left → AreFilesOf (shown kv) fs
  files_stop fs e left rest is off regions walked = files_end kv fs regions
      (walk_stops inodes (file_told (shown kv)) (file_now (shown kv)) (map file_entry fs) e left rest is off walked)

  pub all_files : (fs : List FileRow) (left : KeyRows) → left ≡ [] → AreRegionsAscending fs → FilesWalked kv fs left → AreFilesOf (shown kv) fs
  all_files fs left is regions walked = files_end kv fs regions
      (walk_ends inodes (file_told (shown kv)) (file_now (shown kv)) (map file_entry fs) left is walked)

-- ---- the regions of each file ascend

All-append : {A : Type 0} (F : A → Type 0) (xs ys : List A) → AllByRecursion F xs → AllByRecursion F ys → AllByRecursion F (xs ++ ys)
All-append F [] ys h k = k
All-append F (x ∷ xs) ys h k = (h.0, All-append F xs ys h.1 k)

All-weaker : {A : Type 0} (F G : A → Type 0) → ((x : A) → F x → G x) → (xs : List A) → AllByRecursion F xs → AllByRecursion G xs
All-weaker F G w [] h = tt
All-weaker F G w (x ∷ xs) h = (w x h.0, All-weaker F G w xs h.1)

from-push : {A : Type 0} (before : A → A → Bool) (x : A) (xs : List A) (y : A) → ascends_from before x xs ≡ true → before x y ≡ true
    → AllByRecursion (λ z. before z y ≡ true) xs → ascends_from before x (xs ++ y ∷ []) ≡ true
from-push before x [] y h lt all = ap (λ b. b && true) lt
from-push before x (z ∷ xs) y h lt all =
    let parts = and_both (before x z) (ascends_from before z xs) h in
    ap (λ b. b && ascends_from before z (xs ++ y ∷ [])) parts.0 ∙ from-push before z xs y parts.1 all.0 all.1

ascends-push : {A : Type 0} (before : A → A → Bool) (xs : List A) (y : A) → ascends before xs ≡ true → AllByRecursion (λ z. before z y ≡ true) xs
    → ascends before (xs ++ y ∷ []) ≡ true
ascends-push before [] y h all = refl
ascends-push before (x ∷ xs) y h all = from-push before x xs y h all.0 all.1

module _ (now : ℕ → Option RegionRow) (numbered : (r : ℕ) (row : RegionRow) → now r ≡ Some row → row.number ≡ r) where
  one_below : (xs : List RegionRow) (n : ℕ) (o : Option RegionRow) → now n ≡ o → AllByRecursion (λ row. row.number < n) xs
      → AllByRecursion (λ row. row.number < n + 1) (with_one xs o)
  one_below xs n None e h = All-weaker (λ row. row.number < n) (λ row. row.number < n + 1) (λ row lt. omega (arith, lt)) xs h
  one_below xs n (Some row) e h =
      All-append (λ row. row.number < n + 1) xs (row ∷ []) (All-weaker (λ row. row.number < n) (λ row. row.number < n + 1) (λ row lt. omega (arith, lt)) xs h)
      (omega (arith, numbered n row e), tt)

  are_below : (n : ℕ) → AllByRecursion (λ row. row.number < n) (regions_below now n)
  are_below zero = tt
  are_below (suc n) = subst (λ m. AllByRecursion (λ (row : RegionRow). row.number < m) (regions_below now (suc n))) (omega arith)
      (one_below (regions_below now n) n (now n) refl (are_below n))

  one_ascends : (xs : List RegionRow) (n : ℕ) (o : Option RegionRow) → now n ≡ o → ascends region_before xs ≡ true → AllByRecursion (λ row. row.number < n) xs
      → ascends region_before (with_one xs o) ≡ true
  one_ascends xs n None e h all = h
  one_ascends xs n (Some row) e h all =
      ascends-push region_before xs row h (All-weaker (λ z. z.number < n) (λ z. region_before z row ≡ true)
      (λ z lt. lt-ltb z.number row.number (omega (arith, lt, numbered n row e))) xs all)

  regions_ascend : (n : ℕ) → ascends region_before (regions_below now n) ≡ true
  regions_ascend zero = refl
  regions_ascend (suc n) = one_ascends (regions_below now n) n (now n) refl (regions_ascend n) (are_below n)

pub region_numbered : (r : ℕ) (s : Option Plain) (row : RegionRow) → region_now r s ≡ Some row → row.number ≡ r
region_numbered r None row e = absurd (cc)
region_numbered r (Some (NodeIs n)) row e = absurd (cc)
region_numbered r (Some (NamesAre names)) row e = absurd (cc)
region_numbered r (Some (CountIs n)) row e = absurd (cc)
region_numbered r (Some (LastIs n)) row e = absurd (cc)
region_numbered r (Some (RegionIs end base entries)) row e =
    let is : record { number = r; end = end; base = base; entries = entries } ≡ row =
    some_is (record { number = r; end = end; base = base; entries = entries }) row e in
    sym (ap (λ (x : RegionRow). x.number) is)

one_file : (m : Shown) (fs : List FileRow) (i : InodeId) (o : Option ℕ) → AreRegionsAscending fs
    → AreRegionsAscending (with_one fs (option_map (file_with m i) o))
one_file m fs i None h = h
one_file m fs i (Some n) h =
    All-append (λ (f : FileRow). ascends region_before f.regions ≡ true) fs (file_with m i n ∷ []) h
    (regions_ascend (region_in m i) (λ r row e. region_numbered r (m (Region i r)) row e) (n + 1), tt)

pub regions_go_on : (m : Shown) (fs : List FileRow) (i : InodeId) (v : Value) → AreRegionsAscending fs → AreRegionsAscending (with_one fs (file_due m i v))
regions_go_on m fs i v h = one_file m fs i (last_now (Some (plain v))) h

-- ---- the image of both

wide_file : (f : FileRow) → IsWideFile f → ascends region_before f.regions ≡ true → IsFileRow f
wide_file f wide ascend = record { inode = wide.inode; last = wide.last; count = wide.regions.0; regions = wide.regions.1; ascend = ascend }

wide_files : (fs : List FileRow) → AllByRecursion IsWideFile fs → AreRegionsAscending fs → AllByRecursion IsFileRow fs
wide_files [] wide ascend = tt
wide_files (f ∷ fs) wide ascend = (wide_file f wide.0 ascend.0, wide_files fs wide.1 ascend.1)

pub image_form : (x : ImageRows) → IsWide x → ascends path_before x.paths ≡ true → ascends file_before x.files ≡ true → AreRegionsAscending x.files → IsImage x
image_form x wide paths files regions = record {
  header = wide.header;
  paths = record { count = wide.paths.0; each = wide.paths.1; ascend = paths };
  files = record { count = wide.files.0; each = wide_files x.files wide.files.1 regions; ascend = files };
}
