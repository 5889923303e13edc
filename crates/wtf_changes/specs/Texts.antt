-- The bytes of changes: one text for each list of rows. Numbers are big-endian.
use Rattle.std.specs.Prelude.{ℕ, List, [], ◌∷◌, ◌++◌, length, Option, None, Some}
use Rattle.std.specs.List.{flat_map}
use Rattle.std.specs.Int.{w16, w32, w64, to_be_bytes}
use Rattle.wtf_values.specs.declared.value.Node.{Node}
use Rattle.wtf_imagefmt.specs.Rows.{ValueRow}
use Rattle.wtf_imagefmt.specs.Texts.{value_text, inode_text, node_text, name_text}
use Rattle.wtf_changes.specs.declared.records.PathChange.{PathChange}
use Rattle.wtf_changes.specs.declared.records.FileChange.{FileChange}
use Rattle.wtf_changes.specs.Rows.{RegionChangeRow, ChangeRows}

-- what stands at a path: as in an image, and 2 where nothing does
unfoldable pub stands_text : Option Node → List ℕ
stands_text None = 2 ∷ []
stands_text (Some n) = node_text n

-- a path: its length, its bytes, and what stands there
unfoldable pub path_text : PathChange → List ℕ
path_text c = name_text c.path ++ stands_text c.node

unfoldable pub paths_text : List PathChange → List ℕ
paths_text cs = to_be_bytes w32 (length cs) ++ flat_map path_text cs

-- 0 for a file that is gone, 1 and the number of its last region
unfoldable pub last_text : Option ℕ → List ℕ
last_text None = 0 ∷ []
last_text (Some n) = 1 ∷ to_be_bytes w16 n

-- a file: its inode, and its last region
unfoldable pub file_text : FileChange → List ℕ
file_text c = inode_text c.inode ++ last_text c.last

unfoldable pub files_text : List FileChange → List ℕ
files_text cs = to_be_bytes w32 (length cs) ++ flat_map file_text cs

-- 0 for a region that is gone, 1 and its value
unfoldable pub held_text : Option ValueRow → List ℕ
held_text None = 0 ∷ []
held_text (Some v) = 1 ∷ value_text v

-- a region: the inode of its file, its number, and its value
unfoldable pub region_text : RegionChangeRow → List ℕ
region_text c = inode_text c.inode ++ (to_be_bytes w16 c.number ++ held_text c.value)

unfoldable pub regions_text : List RegionChangeRow → List ℕ
regions_text cs = to_be_bytes w32 (length cs) ++ flat_map region_text cs

-- the number of installs, that of the next transaction, and what changed
unfoldable pub changes_text : ChangeRows → List ℕ
changes_text x = to_be_bytes w64 x.installs ++ (to_be_bytes w64 x.next_tx ++ (paths_text x.paths ++ (files_text x.files ++ regions_text x.regions)))
