-- An image read from left to right: what stands at the front of bytes, and the bytes behind it, if they have that form.
use Rattle.std.specs.Prelude.{ℕ, zero, suc, Bool, ◌==◌, ◌&&◌, ◌||◌, nat_lt, nat_le, bytes_eq, if◌then◌else◌, List, length, Option, None, Some, is_none}
use Rattle.std.specs.Int.{w16, w32, w64}
use Rattle.wtf_base.specs.declared.ids.InodeId.{InodeId}
use Rattle.wtf_base.specs.declared.pointer.Pointer.{Pointer}
use Rattle.wtf_overlay.specs.Reading.{◌>>=◌, Reader, then_at, as_at, only_at, byte_at, number_at, text_at, slice_at, entry_at, counted_at}
use Rattle.wtf_path.specs.Refusals.{refusal}
use Rattle.wtf_values.specs.declared.value.Node.{Node}
use Rattle.wtf_values.specs.declared.value.Node.TheVariants.{Folder, File}
use Rattle.wtf_imagefmt.specs.declared.records.Version.{Version}
use Rattle.wtf_imagefmt.specs.declared.records.Version.TheVariants.{One, Two}
use Rattle.wtf_imagefmt.specs.declared.records.Header.{Header}
use Rattle.wtf_imagefmt.specs.declared.records.PathRecord.{PathRecord}
use Rattle.wtf_imagefmt.specs.Rows.{BaseRow, EntryRow, ValueRow, RegionRow, FileRow, ImageRows}
use Rattle.wtf_imagefmt.specs.Texts.{magic_of}
use Rattle.wtf_imagefmt.specs.Shapes.{ascends, path_before, file_before, region_before}

abbrev pub make_spill : ℕ × (ℕ × List Pointer) → BaseRow
make_spill x = record { visible = x.0; len = x.1.0; pointers = x.1.1 }

-- something of a spilled list is seen, and nothing past the end
abbrev pub is_seen : ℕ → BaseRow → Bool
is_seen end b = nat_lt 0 b.visible && nat_le b.visible end

unfoldable pub spill_at : ℕ → Reader BaseRow
spill_at end = only_at (is_seen end) (as_at make_spill (then_at (number_at w32) (λ visible. then_at (number_at w32) (λ len. slice_at len))))

abbrev pub base_by : ℕ → ℕ → Reader (Option BaseRow)
base_by end zero bytes = Some (None, bytes)
base_by end (suc zero) bytes = as_at (λ b. Some b) (spill_at end) bytes
base_by end (suc (suc n)) bytes = None

unfoldable pub base_at : ℕ → Reader (Option BaseRow)
base_at end bytes = byte_at bytes >>= λ kind. base_by end kind.0 kind.1

abbrev pub make_value : ℕ × (Option BaseRow × List EntryRow) → ValueRow
make_value x = record { end = x.0; base = x.1.0; entries = x.1.1 }

unfoldable pub value_at : Reader ValueRow
value_at = as_at make_value (then_at (number_at w32) (λ end. then_at (base_at end) (λ base. counted_at w32 (entry_at end))))

abbrev pub make_region : ℕ × ValueRow → RegionRow
make_region x = record { number = x.0; end = x.1.end; base = x.1.base; entries = x.1.entries }

unfoldable pub region_at : Reader RegionRow
region_at = as_at make_region (then_at (number_at w16) (λ number. value_at))

abbrev pub make_inode : ℕ × ℕ → InodeId
make_inode x = record { tx = record { 0 = x.0 }; index = x.1 }

unfoldable pub inode_at : Reader InodeId
inode_at = as_at make_inode (then_at (number_at w64) (λ tx. number_at w32))

abbrev pub make_file : InodeId × (ℕ × List RegionRow) → FileRow
make_file x = record { inode = x.0; last = x.1.0; regions = x.1.1 }

unfoldable pub file_at : Reader FileRow
file_at = as_at make_file (then_at inode_at (λ inode. then_at (number_at w16) (λ last. only_at (ascends region_before) (counted_at w16 region_at))))

abbrev pub node_by : ℕ → Reader Node
node_by zero bytes = Some (Folder, bytes)
node_by (suc zero) bytes = as_at File inode_at bytes
node_by (suc (suc n)) bytes = None

unfoldable pub node_at : Reader Node
node_at bytes = byte_at bytes >>= λ kind. node_by kind.0 kind.1

-- a path keeps the rules of paths
abbrev pub is_path : List ℕ → Bool
is_path text = is_none (refusal text)

abbrev pub path_by : List ℕ → Option (List ℕ)
path_by text = if is_path text then Some text else None

unfoldable pub name_at : Reader (List ℕ)
name_at = only_at is_path (as_at (λ x. x.1) (then_at (number_at w16) text_at))

abbrev pub make_path : List ℕ × Node → PathRecord
make_path x = record { path = x.0; node = x.1 }

unfoldable pub path_at : Reader PathRecord
path_at = as_at make_path (then_at name_at (λ name. node_at))

unfoldable pub path_records_at : Reader (List PathRecord)
path_records_at = only_at (ascends path_before) (counted_at w32 path_at)

unfoldable pub files_at : Reader (List FileRow)
files_at = only_at (ascends file_before) (counted_at w32 file_at)

-- the first bytes of an image of one version or the other
abbrev pub is_magic : List ℕ → Bool
is_magic text = bytes_eq text (magic_of One) || bytes_eq text (magic_of Two)

abbrev pub version_of : List ℕ → Version
version_of text = if bytes_eq text (magic_of One) then One else Two

unfoldable pub version_at : Reader Version
version_at = as_at version_of (only_at is_magic (text_at 8))

abbrev pub make_header : ℕ × (ℕ × (ℕ × (ℕ × ℕ))) → Header
make_header x = record { servers = x.0; replicas = x.1.0; region = x.1.1.0; installs = x.1.1.1.0; next_tx = x.1.1.1.1 }

unfoldable pub header_at : Reader Header
header_at = as_at make_header (then_at byte_at (λ servers. then_at byte_at
    (λ replicas. then_at (number_at w32) (λ region. then_at (number_at w64) (λ installs. number_at w64)))))

abbrev pub make_image : Version × (Header × (List PathRecord × List FileRow)) → ImageRows
make_image x = record { version = x.0; header = x.1.0; paths = x.1.1.0; files = x.1.1.1 }

unfoldable pub image_at : Reader ImageRows
image_at = as_at make_image (then_at version_at (λ v. then_at header_at (λ h. then_at path_records_at (λ ps. files_at))))

-- all of the bytes
unfoldable pub image_of : List ℕ → Option ImageRows
image_of bytes = image_at bytes >>= λ x. if length x.1 == 0 then Some x.0 else None
