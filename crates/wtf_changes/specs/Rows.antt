-- What changes hold, row by row.
use Rattle.std.specs.Prelude.{ℕ, List, map, Option}
use Rattle.std.specs.Option.{option_map}
use Rattle.wtf_base.specs.declared.ids.InodeId.{InodeId}
use Rattle.wtf_imagefmt.specs.Rows.{ValueRow, value_row}
use Rattle.wtf_changes.specs.declared.records.PathChange.{PathChange}
use Rattle.wtf_changes.specs.declared.records.FileChange.{FileChange}
use Rattle.wtf_changes.specs.declared.records.RegionChange.{RegionChange}
use Rattle.wtf_changes.specs.declared.records.Changes.{Changes}

-- a region that changed: its file, its number, and its value, if it is not gone
pub record RegionChangeRow : Type 0 where
  pub inode : InodeId
  pub number : ℕ
  pub value : Option ValueRow

-- the two numbers behind the changes, and the paths, the files and the regions that changed
pub record ChangeRows : Type 0 where
  pub installs : ℕ
  pub next_tx : ℕ
  pub paths : List PathChange
  pub files : List FileChange
  pub regions : List RegionChangeRow

-- how they are kept
abbrev pub region_row : RegionChange → RegionChangeRow
region_row c = record { inode = c.inode; number = c.number; value = option_map value_row c.value }

abbrev pub region_rows : List RegionChange → List RegionChangeRow
region_rows cs = map region_row cs

abbrev pub change_rows : Changes → ChangeRows
change_rows x = record { installs = x.installs; next_tx = x.next_tx; paths = x.paths.items; files = x.files.items; regions = region_rows x.regions.items }
