-- Changes read from left to right: what stands at the front of bytes, and the bytes behind it, if they have that form.
use Rattle.std.specs.Prelude.{ℕ, zero, suc, ◌==◌, if◌then◌else◌, List, length, Option, None, Some}
use Rattle.std.specs.Int.{w16, w32, w64}
use Rattle.wtf_base.specs.declared.ids.InodeId.{InodeId}
use Rattle.wtf_overlay.specs.Reading.{◌>>=◌, Reader, then_at, as_at, only_at, byte_at, number_at, counted_at}
use Rattle.wtf_values.specs.declared.value.Node.{Node}
use Rattle.wtf_values.specs.declared.value.Node.TheVariants.{Folder, File}
use Rattle.wtf_imagefmt.specs.Rows.{ValueRow}
use Rattle.wtf_imagefmt.specs.Shapes.{ascends}
use Rattle.wtf_imagefmt.specs.Reading.{inode_at, name_at, value_at}
use Rattle.wtf_changes.specs.declared.records.PathChange.{PathChange}
use Rattle.wtf_changes.specs.declared.records.FileChange.{FileChange}
use Rattle.wtf_changes.specs.Rows.{RegionChangeRow, ChangeRows}
use Rattle.wtf_changes.specs.Shapes.{path_before, file_before, region_before}

abbrev pub stands_by : ℕ → Reader (Option Node)
stands_by zero bytes = Some (Some Folder, bytes)
stands_by (suc zero) bytes = as_at (λ i. Some (File i)) inode_at bytes
stands_by (suc (suc zero)) bytes = Some (None, bytes)
stands_by (suc (suc (suc n))) bytes = None

unfoldable pub stands_at : Reader (Option Node)
stands_at bytes = byte_at bytes >>= λ kind. stands_by kind.0 kind.1

abbrev pub make_path : List ℕ × Option Node → PathChange
make_path x = record { path = x.0; node = x.1 }

unfoldable pub path_at : Reader PathChange
path_at = as_at make_path (then_at name_at (λ name. stands_at))

abbrev pub last_by : ℕ → Reader (Option ℕ)
last_by zero bytes = Some (None, bytes)
last_by (suc zero) bytes = as_at (λ n. Some n) (number_at w16) bytes
last_by (suc (suc n)) bytes = None

unfoldable pub last_at : Reader (Option ℕ)
last_at bytes = byte_at bytes >>= λ kind. last_by kind.0 kind.1

abbrev pub make_file : InodeId × Option ℕ → FileChange
make_file x = record { inode = x.0; last = x.1 }

unfoldable pub file_at : Reader FileChange
file_at = as_at make_file (then_at inode_at (λ inode. last_at))

abbrev pub held_value : ℕ → Reader (Option ValueRow)
held_value zero bytes = Some (None, bytes)
held_value (suc zero) bytes = as_at (λ v. Some v) value_at bytes
held_value (suc (suc n)) bytes = None

unfoldable pub held_at : Reader (Option ValueRow)
held_at bytes = byte_at bytes >>= λ kind. held_value kind.0 kind.1

abbrev pub make_region : InodeId × (ℕ × Option ValueRow) → RegionChangeRow
make_region x = record { inode = x.0; number = x.1.0; value = x.1.1 }

unfoldable pub region_change_at : Reader RegionChangeRow
region_change_at = as_at make_region (then_at inode_at (λ inode. then_at (number_at w16) (λ number. held_at)))

unfoldable pub path_changes_at : Reader (List PathChange)
path_changes_at = only_at (ascends path_before) (counted_at w32 path_at)

unfoldable pub files_at : Reader (List FileChange)
files_at = only_at (ascends file_before) (counted_at w32 file_at)

unfoldable pub regions_at : Reader (List RegionChangeRow)
regions_at = only_at (ascends region_before) (counted_at w32 region_change_at)

abbrev pub make_changes : ℕ × (ℕ × (List PathChange × (List FileChange × List RegionChangeRow))) → ChangeRows
make_changes x = record { installs = x.0; next_tx = x.1.0; paths = x.1.1.0; files = x.1.1.1.0; regions = x.1.1.1.1 }

unfoldable pub changes_at : Reader ChangeRows
changes_at = as_at make_changes
    (then_at (number_at w64) (λ installs. then_at (number_at w64) (λ next_tx. then_at path_changes_at (λ paths. then_at files_at (λ files. regions_at)))))

-- all of the bytes
unfoldable pub changes_of : List ℕ → Option ChangeRows
changes_of bytes = changes_at bytes >>= λ x. if length x.1 == 0 then Some x.0 else None
