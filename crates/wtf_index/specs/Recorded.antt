-- The keys that each call records, in order and up to the refusal, by what the attempt saw.
use Rattle.std.specs.Prelude.{ℕ, ◌++◌, bytes_eq, if◌then◌else◌, List, [], ◌∷◌, Option, Some, None, Result, Ok, Err}
use Rattle.wtf_base.specs.declared.ids.InodeId.{InodeId}
use Rattle.wtf_path.specs.Parts.{parent_of}
use Rattle.wtf_model.specs.declared.answer.Word.{Word}
use Rattle.wtf_model.specs.Tree.{root}
use Rattle.wtf_values.specs.declared.key.Key.{Key}
use Rattle.wtf_values.specs.declared.key.Key.TheVariants.{Path, Dir, Links}
use Rattle.wtf_values.specs.declared.value.Node.{Node}
use Rattle.wtf_values.specs.declared.value.Node.TheVariants.{Folder, File}
use Rattle.wtf_meta.specs.Maps.{Map}
use Rattle.wtf_index.specs.Checks.{stands_at, source_of}

-- a key, where a directory stands there
abbrev pub if_folder : Option Node → Key → List Key
if_folder (Some Folder) k = k ∷ []
if_folder (Some (File i)) k = []
if_folder None k = []

-- of a target: what stands at the parent, and where that is a directory, what stands at the path; nothing for the root
abbrev pub target_keys_in : Map → List ℕ → Option (List ℕ) → List Key
target_keys_in w p None = []
target_keys_in w p (Some dir) = Path dir ∷ if_folder (stands_at w dir) (Path p)

abbrev pub target_keys : Map → List ℕ → List Key
target_keys w p = target_keys_in w p (parent_of p)

-- of a directory: what stands at the path, and where that is a directory, its names
abbrev pub directory_keys : Map → List ℕ → List Key
directory_keys w p = Path p ∷ if_folder (stands_at w p) (Dir p)

-- of a directory that goes: nothing for the root
abbrev pub rmdir_keys : Map → List ℕ → List Key
rmdir_keys w p = if bytes_eq p root then [] else directory_keys w p

-- of a file: what stands at the path
abbrev pub source_keys : List ℕ → List Key
source_keys p = Path p ∷ []

-- of a file that loses a path: what stands at the path, and how many the file has
abbrev pub count_keys : Result InodeId Word → List Key
count_keys (Ok i) = Links i ∷ []
count_keys (Err word) = []

abbrev pub unlink_keys : Map → List ℕ → List Key
unlink_keys w p = source_keys p ++ count_keys (source_of w p)

-- of a file that moves or gets one more path: the file's, and where it is one, the target's
abbrev pub keys_if : {A : Type 0} → Result A Word → List Key → List Key
keys_if (Ok a) ks = ks
keys_if (Err word) ks = []

abbrev pub rename_keys : Map → List ℕ → List ℕ → List Key
rename_keys w p q = source_keys p ++ keys_if (source_of w p) (target_keys w q)
