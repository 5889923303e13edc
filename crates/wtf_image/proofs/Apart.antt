-- The seeds of paths, regions, files and numbers of paths: whose keys they are, and that those of different ones are apart.
use Rattle.std.proofs.Common.{◌≡◌, ◌≢◌, ℕ, true, false, cond, List, [], ◌∷◌, Option, None, Some, refl, sym, ap, subst, ◌∙◌, arith, inl, inr}
use Rattle.std.specs.List.{flat_map}
use Rattle.std.specs.FinMap.Entries.{find}
use Rattle.std.specs.Ordering.{is_lt, is_eq, nat_cmp}
use Rattle.std.specs.Cmp.Lexicographic.{slice_cmp}
use Rattle.std.specs.declared.cmp.Ordering.{Ordering}
use Rattle.std.specs.declared.cmp.Ordering.TheVariants.{Less, Equal, Greater}
use Rattle.std.specs.BTreeMap.{is_at}
use Rattle.std.proofs.lemmas.Bool.{ltb-true, lt-ltb, both_ways, cases_Bool}
use Rattle.wtf_base.specs.declared.ids.InodeId.{InodeId}
use Rattle.wtf_values.specs.Keys.{key_cmp, inode_cmp}
use Rattle.wtf_values.specs.declared.key.Key.{Key}
use Rattle.wtf_values.specs.declared.key.Key.TheVariants.{Path, Dir, Inode, Region, Links}
use Rattle.wtf_values.specs.declared.value.Node.{Node}
use Rattle.wtf_values.specs.declared.value.Node.TheVariants.{Folder, File}
use Rattle.wtf_values.proofs.KeyLaws.{key_total, at_itself, at_same, at_none}
use Rattle.wtf_imagefmt.specs.declared.records.PathRecord.{PathRecord}
use Rattle.wtf_imagefmt.specs.Rows.{RegionRow, FileRow}
use Rattle.wtf_imagefmt.specs.Shapes.{path_before, file_before, region_before}
use Rattle.wtf_values.specs.Names.{NamesOf}
use Rattle.wtf_imagefmt.specs.Lookups.{Plain, LastIs, plain_region, names_under, count_row}
use Rattle.wtf_image.specs.Seeds.{path_seed, dir_seed_by, dir_seed, region_seed, last_seed, file_seeds, count_seed_by, count_seed}

less_is : (o : Ordering) → is_lt o ≡ true → o ≡ Less
less_is Less e = refl
less_is Equal e = cc
less_is Greater e = cc

-- an order on keys that another one carries
key_before : (k q : Key) → is_lt (key_cmp k q) ≡ true → k ≢ q
key_before k q h same =
    let tie : is_eq (key_cmp k q) ≡ true = subst (λ x. is_eq (key_cmp k x) ≡ true) same (at_itself k) in
    let less : key_cmp k q ≡ Less = less_is _ h in
    absurd (both_ways _ (ap is_eq less) tie)

key_trans : (k q r : Key) → is_lt (key_cmp k q) ≡ true → is_lt (key_cmp q r) ≡ true → is_lt (key_cmp k r) ≡ true
key_trans k q r h g = ap is_lt (key_total.trans k q r (less_is _ h) (less_is _ g))

-- one seed, of another key
missing_one : (q k : Key) (v : Plain) → k ≢ q → find key_cmp q ((k, v) ∷ []) ≡ None
missing_one q k v off = ap (λ b. cond b (Some v) None) (at_none q k (λ same. off (sym same)))

-- ---- paths

abbrev pub OwnsPath : PathRecord → Key → Type 0
OwnsPath r q = q ≡ Path r.path

pub path_trans : (x y z : PathRecord) → path_before x y ≡ true → path_before y z ≡ true → path_before x z ≡ true
path_trans x y z h g = key_trans (Path x.path) (Path y.path) (Path z.path) h g

pub path_apart : (x y : PathRecord) (q : Key) → path_before x y ≡ true → OwnsPath y q → find key_cmp q (path_seed x) ≡ None
path_apart x y q h owns = missing_one q (Path x.path) _ (λ same. key_before (Path x.path) (Path y.path) h (same ∙ owns))

-- two paths of which one comes before the other do not tie
pub path_differs : (x y : PathRecord) → path_before x y ≡ true → is_eq (slice_cmp nat_cmp x.path y.path) ≡ false
path_differs x y h = ap is_eq (less_is (slice_cmp nat_cmp x.path y.path) h)

-- ---- directories

abbrev pub OwnsDir : PathRecord → Key → Type 0
OwnsDir r q = q ≡ Dir r.path

dir_apart_by : (x y : PathRecord) (q : Key) (n : Node) → path_before x y ≡ true → OwnsDir y q → (all : List PathRecord)
    → find key_cmp q (dir_seed_by (names_under x.path all) x.path n) ≡ None
dir_apart_by x y q Folder h owns all = missing_one q (Dir x.path) _ (λ same. key_before (Dir x.path) (Dir y.path) h (same ∙ owns))
dir_apart_by x y q (File i) h owns all = refl

pub dir_apart : (all : List PathRecord) (x y : PathRecord) (q : Key) → path_before x y ≡ true → OwnsDir y q → find key_cmp q (dir_seed all x) ≡ None
dir_apart all x y q h owns = dir_apart_by x y q x.node h owns all

-- ---- regions of one file

abbrev pub OwnsRegion : InodeId → RegionRow → Key → Type 0
OwnsRegion i r q = q ≡ Region i r.number

pub region_trans : (x y z : RegionRow) → region_before x y ≡ true → region_before y z ≡ true → region_before x z ≡ true
region_trans x y z h g = lt-ltb _ _ (omega (arith, ltb-true _ _ h, ltb-true _ _ g))

same_number : (i j : InodeId) (n m : ℕ) → Region i n ≡ Region j m → n ≡ m
same_number i j n m same = cc

pub region_apart : (i : InodeId) (x y : RegionRow) (q : Key) → region_before x y ≡ true → OwnsRegion i y q → find key_cmp q (region_seed i x) ≡ None
region_apart i x y q h owns = missing_one q (Region i x.number) _
    (λ same. let e : x.number ≡ y.number = same_number i i x.number y.number (same ∙ owns) in absurd (omega (arith, ltb-true _ _ h)))

-- no region's seed is of another kind of key, or of another inode
pub region_missing : (i : InodeId) (q : Key) → ((n : ℕ) → Region i n ≢ q) → (rs : List RegionRow) → find key_cmp q (flat_map (region_seed i) rs) ≡ None
region_missing i q off [] = refl
region_missing i q off (r ∷ rs) =
    ap (λ b. cond b (Some (plain_region r)) (find key_cmp q (flat_map (region_seed i) rs))) (at_none q (Region i r.number) (λ same. off r.number (sym same)))
    ∙ region_missing i q off rs

-- ---- files

pub data OwnsFile (f : FileRow) (q : Key) : Type 0 where
  ItsInode : q ≡ Inode f.inode → OwnsFile f q
  ItsRegion : (n : ℕ) → q ≡ Region f.inode n → OwnsFile f q

pub file_trans : (x y z : FileRow) → file_before x y ≡ true → file_before y z ≡ true → file_before x z ≡ true
file_trans x y z h g = key_trans (Inode x.inode) (Inode y.inode) (Inode z.inode) h g

other_inode : (i j : InodeId) → is_lt (inode_cmp i j) ≡ true → i ≢ j
other_inode i j h same = key_before (Inode i) (Inode j) h (ap Inode same)

inode_of_region : (i j : InodeId) (n m : ℕ) → Region i n ≡ Region j m → i ≡ j
inode_of_region i j n m same = cc

inode_in_key : (i j : InodeId) → Inode i ≡ Inode j → i ≡ j
inode_in_key i j same = cc

pub no_region : (i j : InodeId) (n : ℕ) → Region i n ≢ Inode j
no_region i j n same = absurd (cc)

pub no_inode : (i j : InodeId) (n : ℕ) → Inode i ≢ Region j n
no_inode i j n same = absurd (cc)

pub file_missing : (f : FileRow) (q : Key) → Inode f.inode ≢ q → ((n : ℕ) → Region f.inode n ≢ q) → find key_cmp q (file_seeds f) ≡ None
file_missing f q first off =
    ap (λ b. cond b (Some (LastIs f.last)) (find key_cmp q (flat_map (region_seed f.inode) f.regions))) (at_none q (Inode f.inode) (λ same. first (sym same)))
    ∙ region_missing f.inode q off f.regions

pub file_apart : (x y : FileRow) (q : Key) → file_before x y ≡ true → OwnsFile y q → find key_cmp q (file_seeds x) ≡ None
file_apart x y q h (ItsInode owns) = file_missing x q
    (λ same. other_inode x.inode y.inode h (inode_in_key x.inode y.inode (same ∙ owns)))
    (λ n same. no_region x.inode y.inode n (same ∙ owns))
file_apart x y q h (ItsRegion m owns) = file_missing x q
    (λ same. no_inode x.inode y.inode m (same ∙ owns))
    (λ n same. other_inode x.inode y.inode h (inode_of_region x.inode y.inode n m (same ∙ owns)))

-- ---- numbers of paths

abbrev pub OwnsCount : FileRow → Key → Type 0
OwnsCount f q = q ≡ Links f.inode

count_apart_by : (x y : FileRow) (q : Key) (o : Option Plain) → file_before x y ≡ true → OwnsCount y q → find key_cmp q (count_seed_by x.inode o) ≡ None
count_apart_by x y q None h owns = refl
count_apart_by x y q (Some s) h owns = missing_one q (Links x.inode) s (λ same. key_before (Links x.inode) (Links y.inode) h (same ∙ owns))

pub count_apart : (times : InodeId → ℕ) (x y : FileRow) (q : Key) → file_before x y ≡ true → OwnsCount y q → find key_cmp q (count_seed times x) ≡ None
count_apart times x y q h owns = count_apart_by x y q (count_row (times x.inode)) h owns

-- ---- whose keys the seeds are of

one_found : (q k : Key) (v s : Plain) → find key_cmp q ((k, v) ∷ []) ≡ Some s → q ≡ k
one_found q k v s h = elim (cases_Bool (is_at (key_cmp q) k)) [
  | inl tie ↦ at_same q k tie
  | inr off ↦ (let none : None ≡ Some s = sym (ap (λ b. cond b (Some v) None) off) ∙ h in absurd (cc))
]

pub path_owns : (r : PathRecord) (q : Key) (s : Plain) → find key_cmp q (path_seed r) ≡ Some s → OwnsPath r q
path_owns r q s h = one_found q (Path r.path) _ s h

pub region_owns : (i : InodeId) (r : RegionRow) (q : Key) (s : Plain) → find key_cmp q (region_seed i r) ≡ Some s → OwnsRegion i r q
region_owns i r q s h = one_found q (Region i r.number) _ s h

dir_owns_by : (p : List ℕ) (names : NamesOf) (n : Node) (q : Key) (s : Plain) → find key_cmp q (dir_seed_by names p n) ≡ Some s → q ≡ Dir p
dir_owns_by p names Folder q s h = one_found q (Dir p) _ s h
dir_owns_by p names (File i) q s h = absurd (cc)

pub dir_owns : (all : List PathRecord) (r : PathRecord) (q : Key) (s : Plain) → find key_cmp q (dir_seed all r) ≡ Some s → OwnsDir r q
dir_owns all r q s h = dir_owns_by r.path (names_under r.path all) r.node q s h

regions_own : (i : InodeId) (rs : List RegionRow) (q : Key) (s : Plain) → find key_cmp q (flat_map (region_seed i) rs) ≡ Some s → (n : ℕ) × (q ≡ Region i n)
regions_own i [] q s h = absurd (cc)
regions_own i (r ∷ rs) q s h = elim (cases_Bool (is_at (key_cmp q) (Region i r.number))) [
  | inl tie ↦ (r.number, at_same q (Region i r.number) tie)
  | inr off ↦ regions_own i rs q s (sym (ap (λ b. cond b (Some (plain_region r)) (find key_cmp q (flat_map (region_seed i) rs))) off) ∙ h)
]

pub file_owns : (f : FileRow) (q : Key) (s : Plain) → find key_cmp q (file_seeds f) ≡ Some s → OwnsFile f q
file_owns f q s h = elim (cases_Bool (is_at (key_cmp q) (Inode f.inode))) [
  | inl tie ↦ ItsInode (at_same q (Inode f.inode) tie)
  | inr off ↦ (let w = regions_own f.inode f.regions q s
      (sym (ap (λ b. cond b (Some (LastIs f.last)) (find key_cmp q (flat_map (region_seed f.inode) f.regions))) off) ∙ h) in ItsRegion w.0 w.1)
]

pub inode_apart : (f : FileRow) (q : Key) (s : Plain) → find key_cmp q (flat_map (region_seed f.inode) f.regions) ≡ Some s
    → find key_cmp q (last_seed f.inode f.last) ≡ None
inode_apart f q s h = let w = regions_own f.inode f.regions q s h in missing_one q (Inode f.inode) _ (λ same. no_inode f.inode f.inode w.0 (same ∙ w.1))

count_owns_by : (i : InodeId) (o : Option Plain) (q : Key) (s : Plain) → find key_cmp q (count_seed_by i o) ≡ Some s → q ≡ Links i
count_owns_by i None q s h = absurd (cc)
count_owns_by i (Some v) q s h = one_found q (Links i) v s h

pub count_owns : (times : InodeId → ℕ) (f : FileRow) (q : Key) (s : Plain) → find key_cmp q (count_seed times f) ≡ Some s → OwnsCount f q
count_owns times f q s h = count_owns_by f.inode (count_row (times f.inode)) q s h
