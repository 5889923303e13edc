-- What the keys of a store are given first.
use Rattle.std.specs.Prelude.{◌≡◌, ℕ, List, [], ◌∷◌, ◌++◌, Option, None, Some}
use Rattle.std.specs.List.{flat_map}
use Rattle.std.specs.FinMap.Entries.{find}
use Rattle.wtf_base.specs.declared.ids.InodeId.{InodeId}
use Rattle.wtf_kv.specs.Stores.{Store, versions_of}
use Rattle.wtf_values.specs.Keys.{key_cmp}
use Rattle.wtf_values.specs.Names.{NamesOf}
use Rattle.wtf_values.specs.declared.key.Key.{Key}
use Rattle.wtf_values.specs.declared.key.Key.TheVariants.{Path, Dir, Inode, Region, Links}
use Rattle.wtf_values.specs.declared.value.Node.{Node}
use Rattle.wtf_values.specs.declared.value.Node.TheVariants.{Folder, File}
use Rattle.wtf_values.specs.declared.value.Value.{Value}
use Rattle.wtf_imagefmt.specs.declared.records.PathRecord.{PathRecord}
use Rattle.wtf_imagefmt.specs.Rows.{RegionRow, FileRow}
pub use Rattle.wtf_imagefmt.specs.Shapes.{AreRegionsAscending}
use Rattle.wtf_imagefmt.specs.Lookups.{Plain, NodeIs, NamesAre, LastIs, plain, plain_region, names_under, count_row}

abbrev pub Seed : Type 0
Seed = Key × Plain

-- of a path
abbrev pub path_seed : PathRecord → List Seed
path_seed r = (Path r.path, NodeIs r.node) ∷ []

-- of a directory, with all paths; none of a file
abbrev pub dir_seed_by : NamesOf → List ℕ → Node → List Seed
dir_seed_by names p Folder = (Dir p, NamesAre names) ∷ []
dir_seed_by names p (File i) = []

abbrev pub dir_seed : List PathRecord → PathRecord → List Seed
dir_seed all r = dir_seed_by (names_under r.path all) r.path r.node

-- of a region, and of a file with its regions
abbrev pub region_seed : InodeId → RegionRow → List Seed
region_seed i r = (Region i r.number, plain_region r) ∷ []

abbrev pub last_seed : InodeId → ℕ → List Seed
last_seed i n = (Inode i, LastIs n) ∷ []

abbrev pub file_seeds : FileRow → List Seed
file_seeds f = last_seed f.inode f.last ++ flat_map (region_seed f.inode) f.regions

-- of the number of a file's paths, if it is said
abbrev pub count_seed_by : InodeId → Option Plain → List Seed
count_seed_by i None = []
count_seed_by i (Some s) = (Links i, s) ∷ []

abbrev pub count_seed : (InodeId → ℕ) → FileRow → List Seed
count_seed times f = count_seed_by f.inode (count_row (times f.inode))

-- the value is the first of a key, and its only version
pub record IsOnly (n : ℕ) (vs : List (ℕ × Option Value)) (s : Plain) : Type 0 where
  pub value : Value
  pub version : vs ≡ (n, Some value) ∷ []
  pub is : plain value ≡ s

-- a store gets these seeds; all other keys stay
pub record Adds (old new : Store Key Value) (seeds : List Seed) : Type 0 where
  pub number : new.number ≡ old.number
  pub pins : new.pins ≡ []
  pub seeded : (q : Key) (s : Plain) → find key_cmp q seeds ≡ Some s → IsOnly old.number (versions_of key_cmp new q) s
  pub others : (q : Key) → find key_cmp q seeds ≡ None → versions_of key_cmp new q ≡ versions_of key_cmp old q
