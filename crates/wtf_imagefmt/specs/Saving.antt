-- The image of a store: what it says of each path and each file is what the store shows.
use Rattle.std.specs.Prelude.{◌≡◌, ℕ, zero, suc, ◌+◌, List, [], ◌∷◌, ◌++◌, map, true, Option, None, Some}
use Rattle.std.specs.Option.{option_map}
use Rattle.std.specs.FinMap.Entries.{find}
use Rattle.wtf_base.specs.declared.ids.InodeId.{InodeId}
use Rattle.wtf_base.specs.declared.settings.Settings.{Settings}
use Rattle.wtf_kv.specs.Stores.{Store}
use Rattle.wtf_values.specs.Keys.{inode_cmp}
use Rattle.wtf_values.specs.declared.key.Key.{Key}
use Rattle.wtf_values.specs.declared.key.Key.TheVariants.{Path, Inode, Region}
use Rattle.wtf_values.specs.declared.value.Node.{Node}
use Rattle.wtf_values.specs.declared.value.Value.{Value}
use Rattle.wtf_imagefmt.specs.declared.records.Version.TheVariants.{Two}
use Rattle.wtf_imagefmt.specs.declared.records.Header.{Header}
use Rattle.wtf_imagefmt.specs.declared.records.PathRecord.{PathRecord}
use Rattle.wtf_imagefmt.specs.Rows.{RegionRow, FileRow, ImageRows}
use Rattle.wtf_imagefmt.specs.Shapes.{ascends, path_before, file_before}
use Rattle.wtf_imagefmt.specs.Images.{HasText}
use Rattle.wtf_imagefmt.specs.Shapes.{AreRegionsAscending}
use Rattle.wtf_imagefmt.specs.Lookups.{Plain, NodeIs, NamesAre, LastIs, RegionIs, CountIs, plain, node_at}
use Rattle.wtf_imagefmt.specs.Shown.{Shown, shown}

-- what a path's value says that stands there
abbrev pub node_now : Option Plain → Option Node
node_now None = None
node_now (Some (NodeIs n)) = Some n
node_now (Some (NamesAre names)) = None
node_now (Some (CountIs n)) = None
node_now (Some (LastIs n)) = None
node_now (Some (RegionIs end base entries)) = None

-- the last region that an inode's value tells
abbrev pub last_now : Option Plain → Option ℕ
last_now None = None
last_now (Some (NodeIs n)) = None
last_now (Some (NamesAre names)) = None
last_now (Some (CountIs n)) = None
last_now (Some (LastIs n)) = Some n
last_now (Some (RegionIs end base entries)) = None

-- the region of this number, by its value
abbrev pub region_now : ℕ → Option Plain → Option RegionRow
region_now r None = None
region_now r (Some (NodeIs n)) = None
region_now r (Some (NamesAre names)) = None
region_now r (Some (CountIs n)) = None
region_now r (Some (LastIs n)) = None
region_now r (Some (RegionIs end base entries)) = Some (record { number = r; end = end; base = base; entries = entries })

-- one more, if there is one
abbrev pub with_one : {A : Type 0} → List A → Option A → List A
with_one xs None = xs
with_one xs (Some x) = xs ++ x ∷ []

-- the regions below n, in order
abbrev pub regions_below : (ℕ → Option RegionRow) → ℕ → List RegionRow
regions_below now zero = []
regions_below now (suc n) = with_one (regions_below now n) (now n)

abbrev pub region_in : Shown → InodeId → ℕ → Option RegionRow
region_in m i r = region_now r (m (Region i r))

-- a file with this last region, and its regions up to that
abbrev pub file_with : Shown → InodeId → ℕ → FileRow
file_with m i n = record { inode = i; last = n; regions = regions_below (region_in m i) (n + 1) }

abbrev pub file_now : Shown → InodeId → Option FileRow
file_now m i = option_map (file_with m i) (last_now (m (Inode i)))

abbrev pub file_entry : FileRow → InodeId × FileRow
file_entry f = (f.inode, f)

abbrev pub file_at : List FileRow → InodeId → Option FileRow
file_at fs i = find inode_cmp i (map file_entry fs)

-- the records of a path and of a file, by the value of its key, if they are due
abbrev pub path_due : List ℕ → Value → Option PathRecord
path_due p v = option_map (λ n. record { path = p; node = n }) (node_now (Some (plain v)))

abbrev pub file_due : Shown → InodeId → Value → Option FileRow
file_due m i v = option_map (file_with m i) (last_now (Some (plain v)))

-- these are the records of all paths, and of all files, in order
pub record ArePathsOf (m : Shown) (rs : List PathRecord) : Type 0 where
  pub ascend : ascends path_before rs ≡ true
  pub each : (p : List ℕ) → node_at rs p ≡ node_now (m (Path p))

pub record AreFilesOf (m : Shown) (fs : List FileRow) : Type 0 where
  pub ascend : ascends file_before fs ≡ true
  pub regions : AreRegionsAscending fs
  pub each : (i : InodeId) → file_at fs i ≡ file_now m i

-- the rows say of each path and each file what a store shows
pub record Says (m : Shown) (x : ImageRows) : Type 0 where
  pub paths : (p : List ℕ) → node_at x.paths p ≡ node_now (m (Path p))
  pub files : (i : InodeId) → file_at x.files i ≡ file_now m i

abbrev pub header_of : Settings → ℕ → ℕ → Header
header_of s installs next_tx = record { servers = s.servers; replicas = s.replicas; region = s.region; installs = installs; next_tx = next_tx }

-- the same image in the second version
abbrev pub as_second : ImageRows → ImageRows
as_second x = record { version = Two; header = x.header; paths = x.paths; files = x.files }

-- the bytes are the image of a store at its number, of the second version
pub record IsSaveOf (kv : Store Key Value) (s : Settings) (next_tx : ℕ) (bytes : List ℕ) : Type 0 where
  pub rows : ImageRows
  pub text : HasText rows bytes
  pub version : rows.version ≡ Two
  pub header : rows.header ≡ header_of s kv.number next_tx
  pub says : Says (shown kv) rows
