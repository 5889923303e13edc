-- What an image holds, row by row.
use Rattle.std.specs.Prelude.{ℕ, List, map, Option, None, Some}
use Rattle.wtf_base.specs.declared.ids.InodeId.{InodeId}
use Rattle.wtf_base.specs.declared.pointer.Pointer.{Pointer}
use Rattle.wtf_base.specs.Slices.{pointers_of, len_of}
pub use Rattle.wtf_overlay.specs.Rows.{EntryRow, part_row, entry_row, entry_rows}
use Rattle.wtf_values.specs.declared.region.RegionValue.{RegionValue}
use Rattle.wtf_values.specs.declared.region.Spill.{Spill}
use Rattle.wtf_imagefmt.specs.declared.records.Version.{Version}
use Rattle.wtf_imagefmt.specs.declared.records.Header.{Header}
use Rattle.wtf_imagefmt.specs.declared.records.PathRecord.{PathRecord}
use Rattle.wtf_imagefmt.specs.declared.records.RegionRecord.{RegionRecord}
use Rattle.wtf_imagefmt.specs.declared.records.FileRecord.{FileRecord}
use Rattle.wtf_imagefmt.specs.declared.records.Image.{Image}

-- a spilled list: how far it is seen, and the number of bytes of the slice that it lies in, with the pointers of that
pub record BaseRow : Type 0 where
  pub visible : ℕ
  pub len : ℕ
  pub pointers : List Pointer

-- the value of a region: where it ends, its spilled list, if there is one, and its entries, the earliest first
pub record ValueRow : Type 0 where
  pub end : ℕ
  pub base : Option BaseRow
  pub entries : List EntryRow

-- a region of a file: its number, where it ends, its spilled list, if there is one, and its entries, the earliest first
pub record RegionRow : Type 0 where
  pub number : ℕ
  pub end : ℕ
  pub base : Option BaseRow
  pub entries : List EntryRow

-- a file: its inode, the number of its last region, and its regions
pub record FileRow : Type 0 where
  pub inode : InodeId
  pub last : ℕ
  pub regions : List RegionRow

-- an image: its version, the settings and the two numbers, what stands at each path, and the files
pub record ImageRows : Type 0 where
  pub version : Version
  pub header : Header
  pub paths : List PathRecord
  pub files : List FileRow

-- how they are kept
abbrev pub spill_row : Spill → BaseRow
spill_row s = record { visible = s.visible; len = len_of s.slice; pointers = pointers_of s.slice }

abbrev pub base_row : Option Spill → Option BaseRow
base_row None = None
base_row (Some s) = Some (spill_row s)

abbrev pub value_row : RegionValue → ValueRow
value_row v = record { end = v.end; base = base_row v.base; entries = entry_rows v.list }

abbrev pub region_row : RegionRecord → RegionRow
region_row r = record { number = r.number; end = r.value.end; base = base_row r.value.base; entries = entry_rows r.value.list }

abbrev pub region_rows : List RegionRecord → List RegionRow
region_rows rs = map region_row rs

abbrev pub file_row : FileRecord → FileRow
file_row f = record { inode = f.inode; last = f.last; regions = region_rows f.regions.items }

abbrev pub file_rows : List FileRecord → List FileRow
file_rows fs = map file_row fs

abbrev pub image_rows : Image → ImageRows
image_rows x = record { version = x.version; header = x.header; paths = x.paths.items; files = file_rows x.files.items }
