-- The bytes of an image: one text for each list of rows. Numbers are big-endian.
use Rattle.std.specs.Prelude.{ℕ, List, [], ◌∷◌, ◌++◌, length, codes, Option, None, Some}
use Rattle.std.specs.List.{flat_map}
use Rattle.std.specs.Int.{w16, w32, w64, to_be_bytes}
use Rattle.wtf_base.specs.declared.ids.InodeId.{InodeId}
use Rattle.wtf_overlay.specs.Texts.{slice_text, entries_text}
use Rattle.wtf_values.specs.declared.value.Node.{Node}
use Rattle.wtf_values.specs.declared.value.Node.TheVariants.{Folder, File}
use Rattle.wtf_imagefmt.specs.declared.records.Version.{Version}
use Rattle.wtf_imagefmt.specs.declared.records.Version.TheVariants.{One, Two}
use Rattle.wtf_imagefmt.specs.declared.records.Header.{Header}
use Rattle.wtf_imagefmt.specs.declared.records.PathRecord.{PathRecord}
use Rattle.wtf_imagefmt.specs.Rows.{BaseRow, ValueRow, RegionRow, FileRow, ImageRows}

-- a spilled list: how far it is seen, the number of its bytes, and the slice with them
unfoldable pub spill_text : BaseRow → List ℕ
spill_text b = to_be_bytes w32 b.visible ++ (to_be_bytes w32 b.len ++ slice_text b.pointers)

-- 0 for no spilled list, 1 and the list
unfoldable pub base_text : Option BaseRow → List ℕ
base_text None = 0 ∷ []
base_text (Some b) = 1 ∷ spill_text b

-- the value of a region: end, spilled list, and the entries
unfoldable pub value_text : ValueRow → List ℕ
value_text v = to_be_bytes w32 v.end ++ (base_text v.base ++ entries_text v.entries)

-- a region: number, end, spilled list, and the entries
unfoldable pub region_text : RegionRow → List ℕ
region_text r = to_be_bytes w16 r.number ++ (to_be_bytes w32 r.end ++ (base_text r.base ++ entries_text r.entries))

unfoldable pub regions_text : List RegionRow → List ℕ
regions_text rs = to_be_bytes w16 (length rs) ++ flat_map region_text rs

-- an inode: transaction, index
unfoldable pub inode_text : InodeId → List ℕ
inode_text i = to_be_bytes w64 i.tx.0 ++ to_be_bytes w32 i.index

-- a file: inode, last region, and the regions
unfoldable pub file_text : FileRow → List ℕ
file_text f = inode_text f.inode ++ (to_be_bytes w16 f.last ++ regions_text f.regions)

unfoldable pub files_text : List FileRow → List ℕ
files_text fs = to_be_bytes w32 (length fs) ++ flat_map file_text fs

-- 0 for a directory, 1 and the inode of a file
unfoldable pub node_text : Node → List ℕ
node_text Folder = 0 ∷ []
node_text (File i) = 1 ∷ inode_text i

-- a path: its length, its bytes, and what stands there
unfoldable pub name_text : List ℕ → List ℕ
name_text p = to_be_bytes w16 (length p) ++ p

unfoldable pub path_text : PathRecord → List ℕ
path_text r = name_text r.path ++ node_text r.node

unfoldable pub paths_text : List PathRecord → List ℕ
paths_text rs = to_be_bytes w32 (length rs) ++ flat_map path_text rs

-- the first bytes of an image, by its version
abbrev pub magic_of : Version → List ℕ
magic_of One = codes "WTFIMG01"
magic_of Two = codes "WTFIMG02"

-- servers, replicas, the size of a region, the number of installs, and that of the next transaction
unfoldable pub header_text : Header → List ℕ
header_text h = (h.servers ∷ []) ++ ((h.replicas ∷ []) ++ (to_be_bytes w32 h.region ++ (to_be_bytes w64 h.installs ++ to_be_bytes w64 h.next_tx)))

unfoldable pub image_text : ImageRows → List ℕ
image_text x = magic_of x.version ++ (header_text x.header ++ (paths_text x.paths ++ files_text x.files))
