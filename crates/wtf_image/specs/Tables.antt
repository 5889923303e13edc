-- Tables by which the rules of a tree are tried, and what a store shows of them.
use Rattle.std.specs.Prelude.{◌≡◌, ℕ, Bool, true, false, List, Option, None, Some, is_some}
use Rattle.std.specs.Option.{option_map, unwrap_or}
use Rattle.std.specs.Map.{lookup}
use Rattle.std.specs.BTreeMap.{is_at}
use Rattle.std.specs.Ordering.{nat_cmp}
use Rattle.std.specs.Cmp.Lexicographic.{slice_cmp}
use Rattle.wtf_base.specs.declared.ids.InodeId.{InodeId}
use Rattle.wtf_path.specs.Parts.{parent_of}
use Rattle.wtf_values.specs.Keys.{inode_cmp}
use Rattle.wtf_values.specs.Names.{NamesOf, no_names}
use Rattle.wtf_values.specs.declared.key.Key.TheVariants as keys
use Rattle.wtf_values.specs.declared.value.Node.{Node}
use Rattle.wtf_values.specs.declared.value.Node.TheVariants.{Folder, File}
use Rattle.wtf_imagefmt.specs.declared.records.PathRecord.{PathRecord}
use Rattle.wtf_imagefmt.specs.Rows.{FileRow}
use Rattle.wtf_imagefmt.specs.Lookups.{Plain, NodeIs, NamesAre, LastIs, RegionIs, CountIs, node_at, last_at, times_named}
pub use Rattle.wtf_imagefmt.specs.Shown.{Shown, shown}

-- how often an inode is named, by a table
abbrev pub count_in : List (InodeId × ℕ) → InodeId → ℕ
count_in counts i = unwrap_or (lookup (is_at (inode_cmp i)) counts) 0

abbrev pub AreCounts : List (InodeId × ℕ) → List PathRecord → Type 0
AreCounts counts rs = (i : InodeId) → count_in counts i ≡ times_named rs i

-- the names in a directory, by a table
abbrev pub table_names : List (List ℕ × NamesOf) → List ℕ → NamesOf
table_names dirs d = unwrap_or (lookup (is_at (slice_cmp nat_cmp d)) dirs) no_names

-- it shows just these paths and files
pub record ShowsRows (m : Shown) (paths : List PathRecord) (files : List FileRow) : Type 0 where
  pub nodes : (p : List ℕ) → m (keys.Path p) ≡ option_map NodeIs (node_at paths p)
  pub lasts : (i : InodeId) → m (keys.Inode i) ≡ option_map LastIs (last_at files i)

abbrev pub is_shown_folder : Option Plain → Bool
is_shown_folder None = false
is_shown_folder (Some (NodeIs Folder)) = true
is_shown_folder (Some (NodeIs (File i))) = false
is_shown_folder (Some (NamesAre names)) = false
is_shown_folder (Some (CountIs n)) = false
is_shown_folder (Some (LastIs n)) = false
is_shown_folder (Some (RegionIs end base entries)) = false

abbrev pub is_shown_in : Shown → Option (List ℕ) → Bool
is_shown_in m None = true
is_shown_in m (Some dir) = is_shown_folder (m (keys.Path dir))

abbrev pub has_shown_parent : Shown → PathRecord → Bool
has_shown_parent m r = is_shown_in m (parent_of r.path)

abbrev pub is_shown_node : Shown → Node → Bool
is_shown_node m Folder = true
is_shown_node m (File i) = is_some (m (keys.Inode i))
