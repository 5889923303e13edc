-- What a map says of the paths that a call names: what the call needs of them, or why it is refused.
use Rattle.std.specs.Prelude.{ℕ, ◌==◌, bytes_eq, if◌then◌else◌, length, List, Option, Some, None, Result, Ok, Err}
use Rattle.wtf_base.specs.declared.ids.InodeId.{InodeId}
use Rattle.wtf_path.specs.Parts.{parent_of}
use Rattle.wtf_model.specs.declared.answer.Word.{Word}
use Rattle.wtf_model.specs.declared.answer.Word.TheVariants.{Exists, NoParent, NoEnt, NotDir, Root, NotEmpty, IsDir}
use Rattle.wtf_model.specs.Tree.{root, ◌>>=◌}
use Rattle.wtf_values.specs.declared.key.Key.TheVariants.{Path, Dir}
use Rattle.wtf_values.specs.declared.value.Node.{Node}
use Rattle.wtf_values.specs.declared.value.Node.TheVariants.{Folder, File}
use Rattle.wtf_values.specs.Names.{NamesOf, names_in}
use Rattle.wtf_meta.specs.Maps.{Map}
use Rattle.wtf_meta.specs.NameEdits.{node_of, names_at}

-- what stands at a path of a map
abbrev pub stands_at : Map → List ℕ → Option Node
stands_at w p = node_of (w (Path p))

-- the names of a directory of a map
abbrev pub names_of_dir : Map → List ℕ → NamesOf
names_of_dir w p = names_at (w (Dir p))

-- a parent has to be a directory
abbrev pub as_parent : Option Node → Result (Unit {0}) Word
as_parent (Some Folder) = Ok tt
as_parent (Some (File i)) = Err NoParent
as_parent None = Err NoParent

-- a target has to be free
abbrev pub as_free : Option Node → Result (Unit {0}) Word
as_free (Some n) = Err Exists
as_free None = Ok tt

-- a directory that a call names
abbrev pub as_directory : Option Node → Result (Unit {0}) Word
as_directory (Some Folder) = Ok tt
as_directory (Some (File i)) = Err NotDir
as_directory None = Err NoEnt

-- a file that a call names, and its inode
abbrev pub as_file : Option Node → Result InodeId Word
as_file (Some (File i)) = Ok i
as_file (Some Folder) = Err IsDir
as_file None = Err NoEnt

-- a target is free, and this is the directory in which it comes to stand: the root is there already; else the parent is a
-- directory, and nothing stands at the path
abbrev pub target_in : Map → List ℕ → Option (List ℕ) → Result (List ℕ) Word
target_in w p None = Err Exists
target_in w p (Some dir) = do
  _ ← as_parent (stands_at w dir)
  _ ← as_free (stands_at w p)
  Ok dir

abbrev pub target_of : Map → List ℕ → Result (List ℕ) Word
target_of w p = target_in w p (parent_of p)

-- the file at a path
abbrev pub source_of : Map → List ℕ → Result InodeId Word
source_of w p = as_file (stands_at w p)

-- the names of the directory at a path
abbrev pub directory_of : Map → List ℕ → Result NamesOf Word
directory_of w p = do
  _ ← as_directory (stands_at w p)
  Ok (names_of_dir w p)

abbrev pub is_bare : NamesOf → Result (Unit {0}) Word
is_bare names = if length (names_in names) == 0 then Ok tt else Err NotEmpty

abbrev pub is_inner : List ℕ → Result (Unit {0}) Word
is_inner p = if bytes_eq p root then Err Root else Ok tt

-- a directory that may go: not the root, and without names
abbrev pub bare_of : Map → List ℕ → Result (Unit {0}) Word
bare_of w p = do
  _ ← is_inner p
  names ← directory_of w p
  is_bare names
