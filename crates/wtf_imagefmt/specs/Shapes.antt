-- Which rows an image can have: each number has its width, rows ascend and none stands twice, a path keeps the rules of
-- paths, a slice those of slices, an entry has bytes and lies inside its region, and so does what is seen of a spilled list.
use Rattle.std.specs.Prelude.{◌≡◌, ℕ, ◌<◌, ◌≤◌, ◌^◌, Bool, true, ◌&&◌, nat_lt, List, [], ◌∷◌, length, Option, None, Some, ⊤}
use Rattle.std.specs.List.{AllByRecursion}
use Rattle.std.specs.Ordering.{is_lt, nat_cmp}
use Rattle.std.specs.Cmp.Lexicographic.{slice_cmp}
use Rattle.wtf_base.specs.declared.ids.InodeId.{InodeId}
use Rattle.wtf_overlay.specs.Shapes.{IsSlice, IsEntry}
use Rattle.wtf_path.specs.Grammar.{IsPath}
use Rattle.wtf_values.specs.Keys.{inode_cmp}
use Rattle.wtf_values.specs.declared.value.Node.{Node}
use Rattle.wtf_values.specs.declared.value.Node.TheVariants.{Folder, File}
use Rattle.wtf_imagefmt.specs.declared.records.Header.{Header}
use Rattle.wtf_imagefmt.specs.declared.records.PathRecord.{PathRecord}
use Rattle.wtf_imagefmt.specs.Rows.{BaseRow, ValueRow, RegionRow, FileRow, ImageRows}

-- each comes before the next one
abbrev pub ascends_from : {A : Type 0} → (A → A → Bool) → A → List A → Bool
ascends_from before x [] = true
ascends_from before x (y ∷ ys) = before x y && ascends_from before y ys

abbrev pub ascends : {A : Type 0} → (A → A → Bool) → List A → Bool
ascends before [] = true
ascends before (x ∷ xs) = ascends_from before x xs

-- paths by their bytes, files by their inodes, regions by their numbers
abbrev pub path_before : PathRecord → PathRecord → Bool
path_before a b = is_lt (slice_cmp nat_cmp a.path b.path)

abbrev pub file_before : FileRow → FileRow → Bool
file_before a b = is_lt (inode_cmp a.inode b.inode)

abbrev pub region_before : RegionRow → RegionRow → Bool
region_before a b = nat_lt a.number b.number

-- the regions of each file ascend
abbrev pub AreRegionsAscending : List FileRow → Type 0
AreRegionsAscending fs = AllByRecursion (λ f. ascends region_before f.regions ≡ true) fs

-- a spilled list of a region that ends there: something of it is seen, and nothing past the end
pub record IsSpill (end : ℕ) (b : BaseRow) : Type 0 where
  pub visible : b.visible < 2 ^ 32
  pub len : b.len < 2 ^ 32
  pub some : 0 < b.visible
  pub within : b.visible ≤ end
  pub slice : IsSlice b.len b.pointers

abbrev pub IsBase : ℕ → Option BaseRow → Type 0
IsBase end None = ⊤
IsBase end (Some b) = IsSpill end b

pub record IsValue (v : ValueRow) : Type 0 where
  pub end : v.end < 2 ^ 32
  pub base : IsBase v.end v.base
  pub count : length v.entries < 2 ^ 32
  pub entries : AllByRecursion (IsEntry v.end) v.entries

pub record IsRegion (r : RegionRow) : Type 0 where
  pub number : r.number < 2 ^ 16
  pub end : r.end < 2 ^ 32
  pub base : IsBase r.end r.base
  pub count : length r.entries < 2 ^ 32
  pub entries : AllByRecursion (IsEntry r.end) r.entries

pub record IsInode (i : InodeId) : Type 0 where
  pub tx : i.tx.0 < 2 ^ 64
  pub index : i.index < 2 ^ 32

pub record IsFileRow (f : FileRow) : Type 0 where
  pub inode : IsInode f.inode
  pub last : f.last < 2 ^ 16
  pub count : length f.regions < 2 ^ 16
  pub regions : AllByRecursion IsRegion f.regions
  pub ascend : ascends region_before f.regions ≡ true

abbrev pub IsNode : Node → Type 0
IsNode Folder = ⊤
IsNode (File i) = IsInode i

pub record IsPathRow (r : PathRecord) : Type 0 where
  pub path : IsPath r.path
  pub node : IsNode r.node

pub record IsHeader (h : Header) : Type 0 where
  pub servers : h.servers < 2 ^ 8
  pub replicas : h.replicas < 2 ^ 8
  pub region : h.region < 2 ^ 32
  pub installs : h.installs < 2 ^ 64
  pub next_tx : h.next_tx < 2 ^ 64

pub record ArePaths (rs : List PathRecord) : Type 0 where
  pub count : length rs < 2 ^ 32
  pub each : AllByRecursion IsPathRow rs
  pub ascend : ascends path_before rs ≡ true

pub record AreFiles (fs : List FileRow) : Type 0 where
  pub count : length fs < 2 ^ 32
  pub each : AllByRecursion IsFileRow fs
  pub ascend : ascends file_before fs ≡ true

-- the rows of an image
pub record IsImage (x : ImageRows) : Type 0 where
  pub header : IsHeader x.header
  pub paths : ArePaths x.paths
  pub files : AreFiles x.files
