-- An image that is changed: what it has of each path and of each file as maps, what changes make of them, and the rows that come of it.
use Rattle.std.specs.Prelude.{ℕ, List, [], ◌∷◌, map, Option, None, Some}
use Rattle.std.specs.Option.{option_map}
use Rattle.std.specs.Map.{lookup, remove_entry}
use Rattle.std.specs.BTreeMap.{is_at, insert_entry}
use Rattle.std.specs.Ordering.{nat_cmp}
use Rattle.std.specs.Cmp.Lexicographic.{slice_cmp}
use Rattle.std.specs.declared.cmp.Ordering.{Ordering}
use Rattle.wtf_base.specs.declared.ids.InodeId.{InodeId}
use Rattle.wtf_overlay.specs.Reading.{◌>>=◌}
use Rattle.wtf_values.specs.Keys.{inode_cmp}
use Rattle.wtf_values.specs.declared.value.Node.{Node}
use Rattle.wtf_imagefmt.specs.declared.records.Version.TheVariants.{Two}
use Rattle.wtf_imagefmt.specs.declared.records.Header.{Header}
use Rattle.wtf_imagefmt.specs.declared.records.PathRecord.{PathRecord}
use Rattle.wtf_imagefmt.specs.Rows.{ValueRow, RegionRow, FileRow, ImageRows}
use Rattle.wtf_changes.specs.declared.records.PathChange.{PathChange}
use Rattle.wtf_changes.specs.declared.records.FileChange.{FileChange}
use Rattle.wtf_changes.specs.Rows.{RegionChangeRow, ChangeRows}

module _ {K X : Type 0} (order : K → K → Ordering) where
  -- a key has this value from now on, or none
  abbrev pub set : List (K × X) → K → Option X → List (K × X)
  set es k None = remove_entry (is_at (order k)) es
  set es k (Some x) = insert_entry order es k x

  -- one key after another
  abbrev pub set_all : List (K × X) → List (K × Option X) → List (K × X)
  set_all es [] = es
  set_all es (c ∷ cs) = set_all (set es c.0 c.1) cs

  -- a key that is taken out, and has this value then
  abbrev pub put_back : List (K × X) → K → X → List (K × X)
  put_back es k x = insert_entry order (remove_entry (is_at (order k)) es) k x

-- the last region of a file, and its regions by their numbers
pub record FileEntry : Type 0 where
  pub last : ℕ
  pub regions : List (ℕ × ValueRow)

pub record DraftRows : Type 0 where
  pub header : Header
  pub paths : List (List ℕ × Node)
  pub files : List (InodeId × FileEntry)

-- ---- what an image has

abbrev pub node_taken : PathRecord → List ℕ × Option Node
node_taken r = (r.path, Some r.node)

abbrev pub value_of : RegionRow → ValueRow
value_of r = record { end = r.end; base = r.base; entries = r.entries }

abbrev pub value_taken : RegionRow → ℕ × Option ValueRow
value_taken r = (r.number, Some (value_of r))

abbrev pub regions_taken : List RegionRow → List (ℕ × ValueRow)
regions_taken rs = set_all nat_cmp [] (map value_taken rs)

abbrev pub file_taken : FileRow → InodeId × Option FileEntry
file_taken f = (f.inode, Some (record { last = f.last; regions = regions_taken f.regions }))

abbrev pub taken : ImageRows → DraftRows
taken x = record { header = x.header; paths = set_all (slice_cmp nat_cmp) [] (map node_taken x.paths); files = set_all inode_cmp [] (map file_taken x.files) }

-- ---- what changes make of it

abbrev pub node_change : PathChange → List ℕ × Option Node
node_change c = (c.path, c.node)

-- a file that was there keeps its regions
abbrev pub regions_kept : Option FileEntry → List (ℕ × ValueRow)
regions_kept None = []
regions_kept (Some f) = f.regions

abbrev pub with_last : ℕ → Option FileEntry → FileEntry
with_last n found = record { last = n; regions = regions_kept found }

abbrev pub file_found : List (InodeId × FileEntry) → InodeId → Option FileEntry
file_found es i = lookup (is_at (inode_cmp i)) es

abbrev pub file_set : List (InodeId × FileEntry) → InodeId → Option ℕ → List (InodeId × FileEntry)
file_set es i None = remove_entry (is_at (inode_cmp i)) es
file_set es i (Some n) = put_back inode_cmp es i (with_last n (file_found es i))

abbrev pub files_set : List (InodeId × FileEntry) → List FileChange → List (InodeId × FileEntry)
files_set es [] = es
files_set es (c ∷ cs) = files_set (file_set es c.inode c.last) cs

-- a file that is not there has no region to lose, and none can be given to it
abbrev pub nowhere : List (InodeId × FileEntry) → Option ValueRow → Option (List (InodeId × FileEntry))
nowhere es None = Some es
nowhere es (Some v) = None

abbrev pub with_region : FileEntry → ℕ → Option ValueRow → FileEntry
with_region f r v = record { last = f.last; regions = set nat_cmp f.regions r v }

abbrev pub region_set_in : Option FileEntry → List (InodeId × FileEntry) → RegionChangeRow → Option (List (InodeId × FileEntry))
region_set_in None es c = nowhere es c.value
region_set_in (Some f) es c = Some (put_back inode_cmp es c.inode (with_region f c.number c.value))

abbrev pub region_set : List (InodeId × FileEntry) → RegionChangeRow → Option (List (InodeId × FileEntry))
region_set es c = region_set_in (file_found es c.inode) es c

abbrev pub regions_set : List (InodeId × FileEntry) → List RegionChangeRow → Option (List (InodeId × FileEntry))
regions_set es [] = Some es
regions_set es (c ∷ cs) = region_set es c >>= λ made. regions_set made cs

abbrev pub header_with : Header → ChangeRows → Header
header_with h ch = record { servers = h.servers; replicas = h.replicas; region = h.region; installs = ch.installs; next_tx = ch.next_tx }

-- none where a region is given to a file that is not there
abbrev pub changed : DraftRows → ChangeRows → Option DraftRows
changed d ch = regions_set (files_set d.files ch.files) ch.regions >>= λ files.
    Some (record { header = header_with d.header ch; paths = set_all (slice_cmp nat_cmp) d.paths (map node_change ch.paths); files = files })

-- ---- the rows that come of it: those of an image of the second version, whatever it was before

abbrev pub path_written : List ℕ × Node → PathRecord
path_written e = record { path = e.0; node = e.1 }

abbrev pub region_written : ℕ × ValueRow → RegionRow
region_written e = record { number = e.0; end = e.1.end; base = e.1.base; entries = e.1.entries }

abbrev pub file_written : InodeId × FileEntry → FileRow
file_written e = record { inode = e.0; last = e.1.last; regions = map region_written e.1.regions }

abbrev pub written : DraftRows → ImageRows
written d = record { version = Two; header = d.header; paths = map path_written d.paths; files = map file_written d.files }

-- an image with changes made in it
abbrev pub applied : ImageRows → ChangeRows → Option ImageRows
applied x ch = option_map written (changed (taken x) ch)
