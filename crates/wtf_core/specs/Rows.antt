-- A tree as it is shown: which rows are those of a map.
use Rattle.std.specs.Prelude.{◌≡◌, ℕ, T, cond, List, [], ◌∷◌, ◌++◌, map, Option, None, Some}
use Rattle.std.specs.FinMap.{find, is_sorted}
use Rattle.std.specs.Cmp.Lexicographic.{slice_cmp}
use Rattle.std.specs.declared.cmp.Ordering.{Ordering}
use Rattle.std.specs.Ordering.{nat_cmp}
use Rattle.wtf_kv.specs.Stores.{Store}
use Rattle.wtf_kv.specs.Order.{is_before}
use Rattle.wtf_model.specs.declared.lists.Row.{Row}
use Rattle.wtf_values.specs.Keys.{key_cmp}
use Rattle.wtf_values.specs.declared.key.Key.{Key}
use Rattle.wtf_values.specs.declared.key.Key.TheVariants.{Path}
use Rattle.wtf_values.specs.declared.value.Node.{Node}
use Rattle.wtf_values.specs.declared.value.Node.TheVariants.{Folder, File}
use Rattle.wtf_values.specs.declared.value.Value.{Value}
use Rattle.wtf_values.specs.declared.value.Value.TheVariants as value
use Rattle.wtf_meta.specs.Maps.{Map, metadata_at}
use Rattle.wtf_meta.specs.Files.{file_len}
use Rattle.wtf_meta.specs.FileEdits.{file_of}

-- the order of paths, by their bytes
abbrev pub path_cmp : List ℕ → List ℕ → Ordering
path_cmp = slice_cmp nat_cmp

-- the map as it stands now
abbrev pub map_now : Store Key Value → Map
map_now kv = metadata_at kv kv.number

-- what is shown behind a path: the length of a file, where a region has b bytes
abbrev pub shown_node : ℕ → Map → Node → Option ℕ
shown_node b w Folder = None
shown_node b w (File i) = Some (file_len b (file_of i w))

abbrev pub shown_value : ℕ → Map → Option Value → Option (Option ℕ)
shown_value b w None = None
shown_value b w (Some (value.Node n)) = Some (shown_node b w n)
shown_value b w (Some (value.Names ns)) = None
shown_value b w (Some (value.Count n)) = None
shown_value b w (Some (value.Last r)) = None
shown_value b w (Some (value.Region v)) = None

-- what is shown behind a path, none where it is not shown
abbrev pub ShownPaths : Type 0
ShownPaths = List ℕ → Option (Option ℕ)

-- what a map shows
abbrev pub shown_at : ℕ → Map → ShownPaths
shown_at b w p = shown_value b w (w (Path p))

-- and of that what lies below a key
abbrev pub shown_below : Option Key → ShownPaths → ShownPaths
shown_below at shown p = cond (is_before key_cmp at (Path p)) (shown p) None

-- rows, and then the one of a path, if it is shown
abbrev pub with_row : List Row → List ℕ → Option (Option ℕ) → List Row
with_row rows p None = rows
with_row rows p (Some len) = rows ++ record { path = p; len = len } ∷ []

abbrev pub entry_of : Row → List ℕ × Option ℕ
entry_of r = (r.path, r.len)

abbrev pub entries_of : List Row → List (List ℕ × Option ℕ)
entries_of rows = map entry_of rows

-- the paths of the rows rise, and they have just what is shown
pub record IsShown (shown : ShownPaths) (rows : List Row) : Type 0 where
  pub sorted : T (is_sorted path_cmp (entries_of rows))
  pub each : (p : List ℕ) → find path_cmp p (entries_of rows) ≡ shown p
