-- What changes have of a key, and in which order they stand.
use Rattle.std.specs.Prelude.{◌≡◌, ℕ, true, [], ◌∷◌, ◌++◌, Option}
use Rattle.wtf_kv.specs.Stores.{Store}
use Rattle.wtf_values.specs.declared.key.Key.{Key}
use Rattle.wtf_values.specs.declared.key.Key.TheVariants.{Path, Dir, Inode, Region, Links}
use Rattle.wtf_values.specs.declared.value.Value.{Value}
use Rattle.wtf_imagefmt.specs.Lookups.{Plain}
use Rattle.wtf_imagefmt.specs.Saving.{node_now, last_now}
use Rattle.wtf_imagefmt.specs.Shapes.{ascends}
use Rattle.wtf_changes.specs.Rows.{ChangeRows}
use Rattle.wtf_changes.specs.Shapes.{path_before, file_before, region_before}
use Rattle.wtf_changes.specs.Since.{value_now, AreChangesOf}

-- with what a key is now at the end; nothing of a directory and of a number of paths
abbrev pub with_key : ChangeRows → Key → Option Plain → ChangeRows
with_key x (Path p) now = record x { paths = x.paths ++ record { path = p; node = node_now now } ∷ [] }
with_key x (Dir d) now = x
with_key x (Inode i) now = record x { files = x.files ++ record { inode = i; last = last_now now } ∷ [] }
with_key x (Links i) now = x
with_key x (Region i r) now = record x { regions = x.regions ++ record { inode = i; number = r; value = value_now now } ∷ [] }

-- all rows ascend
pub record AreRising (x : ChangeRows) : Type 0 where
  pub paths : ascends path_before x.paths ≡ true
  pub files : ascends file_before x.files ≡ true
  pub regions : ascends region_before x.regions ≡ true

-- no change yet, with the two numbers
abbrev pub none_yet : ℕ → ℕ → ChangeRows
none_yet installs next_tx = record { installs = installs; next_tx = next_tx; paths = []; files = []; regions = [] }

-- the changes of a store since a number, and their rows ascend
pub record AreInOrder (kv : Store Key Value) (since next_tx : ℕ) (x : ChangeRows) : Type 0 where
  pub are : AreChangesOf kv since next_tx x
  pub rise : AreRising x
