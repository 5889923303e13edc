-- Which rows changes can have: each number has its width, and rows ascend and none stands twice.
use Rattle.std.specs.Prelude.{◌≡◌, ℕ, ◌<◌, ◌^◌, Bool, true, List, length, Option, None, Some, ⊤}
use Rattle.std.specs.List.{AllByRecursion}
use Rattle.std.specs.Ordering.{is_lt, nat_cmp}
use Rattle.std.specs.Cmp.Lexicographic.{slice_cmp}
use Rattle.wtf_path.specs.Grammar.{IsPath}
use Rattle.wtf_values.specs.Keys.{inode_cmp}
use Rattle.wtf_values.specs.declared.value.Node.{Node}
use Rattle.wtf_imagefmt.specs.Lookups.{place_cmp}
use Rattle.wtf_imagefmt.specs.Rows.{ValueRow}
use Rattle.wtf_imagefmt.specs.Shapes.{ascends, IsInode, IsNode, IsValue}
use Rattle.wtf_changes.specs.declared.records.PathChange.{PathChange}
use Rattle.wtf_changes.specs.declared.records.FileChange.{FileChange}
use Rattle.wtf_changes.specs.Rows.{RegionChangeRow, ChangeRows}
use Rattle.wtf_changes.specs.Texts.{changes_text}

-- paths by their bytes, files by their inodes, regions by their files and then by their numbers
abbrev pub path_before : PathChange → PathChange → Bool
path_before a b = is_lt (slice_cmp nat_cmp a.path b.path)

abbrev pub file_before : FileChange → FileChange → Bool
file_before a b = is_lt (inode_cmp a.inode b.inode)

abbrev pub region_before : RegionChangeRow → RegionChangeRow → Bool
region_before a b = is_lt (place_cmp (a.inode, a.number) (b.inode, b.number))

-- what is in form where it is there
abbrev pub IsStanding : Option Node → Type 0
IsStanding None = ⊤
IsStanding (Some n) = IsNode n

abbrev pub IsLast : Option ℕ → Type 0
IsLast None = ⊤
IsLast (Some n) = n < 2 ^ 16

abbrev pub IsValueHeld : Option ValueRow → Type 0
IsValueHeld None = ⊤
IsValueHeld (Some v) = IsValue v

pub record IsPathRow (c : PathChange) : Type 0 where
  pub path : IsPath c.path
  pub node : IsStanding c.node

pub record IsFileRow (c : FileChange) : Type 0 where
  pub inode : IsInode c.inode
  pub last : IsLast c.last

pub record IsRegionRow (c : RegionChangeRow) : Type 0 where
  pub inode : IsInode c.inode
  pub number : c.number < 2 ^ 16
  pub value : IsValueHeld c.value

pub record ArePaths (cs : List PathChange) : Type 0 where
  pub count : length cs < 2 ^ 32
  pub each : AllByRecursion IsPathRow cs
  pub ascend : ascends path_before cs ≡ true

pub record AreFiles (cs : List FileChange) : Type 0 where
  pub count : length cs < 2 ^ 32
  pub each : AllByRecursion IsFileRow cs
  pub ascend : ascends file_before cs ≡ true

pub record AreRegions (cs : List RegionChangeRow) : Type 0 where
  pub count : length cs < 2 ^ 32
  pub each : AllByRecursion IsRegionRow cs
  pub ascend : ascends region_before cs ≡ true

-- the rows of changes
pub record AreChanges (x : ChangeRows) : Type 0 where
  pub installs : x.installs < 2 ^ 64
  pub next_tx : x.next_tx < 2 ^ 64
  pub paths : ArePaths x.paths
  pub files : AreFiles x.files
  pub regions : AreRegions x.regions

-- the bytes are the text of these rows, which have the shape of changes
pub record HasChanges (x : ChangeRows) (bytes : List ℕ) : Type 0 where
  pub shape : AreChanges x
  pub text : bytes ≡ changes_text x
