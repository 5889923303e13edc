-- What the rows of an image say of a path, an inode and a region.
use Rattle.std.specs.Prelude.{ℕ, Bool, false, nat_le, if◌then◌else◌, count_by, List, [], ◌∷◌, map, Option, None, Some}
use Rattle.std.specs.List.{flat_map}
use Rattle.std.specs.FinMap.Entries.{find}
use Rattle.std.specs.Option.{option_map}
use Rattle.std.specs.Ordering.{nat_cmp, is_eq, ordering_then}
use Rattle.std.specs.Cmp.Lexicographic.{slice_cmp}
use Rattle.std.specs.declared.cmp.Ordering.{Ordering}
use Rattle.wtf_base.specs.declared.ids.InodeId.{InodeId}
use Rattle.wtf_model.specs.Tree.{is_in}
use Rattle.wtf_path.specs.Parts.{name_of}
use Rattle.wtf_values.specs.Keys.{inode_cmp}
use Rattle.wtf_values.specs.Names.{NamesOf, no_names, with_name}
use Rattle.wtf_values.specs.declared.key.Key.{Key}
use Rattle.wtf_values.specs.declared.key.Key.TheVariants.{Path, Dir, Inode, Region, Links}
use Rattle.wtf_values.specs.declared.value.Node.{Node}
use Rattle.wtf_values.specs.declared.value.Node.TheVariants.{Folder, File}
use Rattle.wtf_values.specs.declared.value.Value.{Value}
use Rattle.wtf_values.specs.declared.value.Value.TheVariants as value
use Rattle.wtf_imagefmt.specs.declared.records.PathRecord.{PathRecord}
use Rattle.wtf_imagefmt.specs.Rows.{BaseRow, EntryRow, RegionRow, FileRow, ImageRows, base_row, entry_rows}

-- a value of the store, without where it lies in memory
pub data Plain : Type 0 where
  NodeIs : (n : Node) → Plain
  NamesAre : (names : NamesOf) → Plain
  LastIs : (n : ℕ) → Plain
  RegionIs : (end : ℕ) (base : Option BaseRow) (entries : List EntryRow) → Plain
  CountIs : (n : ℕ) → Plain

abbrev pub plain : Value → Plain
plain (value.Node n) = NodeIs n
plain (value.Names names) = NamesAre names
plain (value.Last n) = LastIs n
plain (value.Region v) = RegionIs v.end (base_row v.base) (entry_rows v.list)
plain (value.Count n) = CountIs n

-- what stands at a path
abbrev pub path_entry : PathRecord → List ℕ × Node
path_entry r = (r.path, r.node)

abbrev pub node_at : List PathRecord → List ℕ → Option Node
node_at rs p = find (slice_cmp nat_cmp) p (map path_entry rs)

-- a directory has the names of the paths that stand in it
abbrev pub added_name : List ℕ → List ℕ → NamesOf → NamesOf
added_name dir p names = if is_in dir p then with_name names (name_of p) else names

abbrev pub names_from : NamesOf → List ℕ → List PathRecord → NamesOf
names_from names dir [] = names
names_from names dir (r ∷ rs) = names_from (added_name dir r.path names) dir rs

abbrev pub names_under : List ℕ → List PathRecord → NamesOf
names_under dir rs = names_from no_names dir rs

-- the number of a file's last region
abbrev pub last_entry : FileRow → InodeId × ℕ
last_entry f = (f.inode, f.last)

abbrev pub last_at : List FileRow → InodeId → Option ℕ
last_at fs i = find inode_cmp i (map last_entry fs)

-- a region, by its inode and its number
abbrev pub place_cmp : InodeId × ℕ → InodeId × ℕ → Ordering
place_cmp a b = ordering_then (inode_cmp a.0 b.0) (nat_cmp a.1 b.1)

abbrev pub region_entry : InodeId → RegionRow → (InodeId × ℕ) × RegionRow
region_entry i r = ((i, r.number), r)

abbrev pub region_entries : FileRow → List ((InodeId × ℕ) × RegionRow)
region_entries f = map (region_entry f.inode) f.regions

abbrev pub region_at : List FileRow → InodeId → ℕ → Option RegionRow
region_at fs i r = find place_cmp (i, r) (flat_map region_entries fs)

abbrev pub plain_region : RegionRow → Plain
plain_region r = RegionIs r.end r.base r.entries

-- a directory's names, and nothing for a file
abbrev pub names_of_node : NamesOf → Option Node → Option Plain
names_of_node names None = None
names_of_node names (Some Folder) = Some (NamesAre names)
names_of_node names (Some (File i)) = None

-- a path names an inode
abbrev pub is_name_of : InodeId → Node → Bool
is_name_of i Folder = false
is_name_of i (File j) = is_eq (inode_cmp j i)

-- how many paths name an inode; this is said of those that several name
abbrev pub times_named : List PathRecord → InodeId → ℕ
times_named rs i = count_by (λ r. is_name_of i r.node) rs

abbrev pub count_row : ℕ → Option Plain
count_row n = if nat_le 2 n then Some (CountIs n) else None

-- what an image says of a key
abbrev pub row_at : ImageRows → Key → Option Plain
row_at x (Path p) = option_map NodeIs (node_at x.paths p)
row_at x (Dir p) = names_of_node (names_under p x.paths) (node_at x.paths p)
row_at x (Inode i) = option_map LastIs (last_at x.files i)
row_at x (Region i r) = option_map plain_region (region_at x.files i r)
row_at x (Links i) = count_row (times_named x.paths i)
