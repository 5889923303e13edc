-- The calls on names: what each does to its session, and what it answers. Refusals come in the order of the lines.
use Rattle.std.specs.Prelude.{ℕ, bytes_eq, if◌then◌else◌, List, [], length, Option, Some, None, Result, Ok, Err}
use Rattle.std.specs.FinMap.{get}
use Rattle.wtf_model.specs.declared.answer.Word.{Word}
use Rattle.wtf_model.specs.declared.answer.Word.TheVariants.{Root, NoEnt}
use Rattle.wtf_model.specs.declared.answer.Answer.{Answer}
use Rattle.wtf_model.specs.declared.answer.Answer.TheVariants as answer
use Rattle.wtf_model.specs.Tree.{path_count, TreeNode, Dir, File, root, ◌>>=◌, target, source, is_directory, is_empty, names_in}
use Rattle.wtf_model.specs.Session.{Session}
use Rattle.wtf_model.specs.Done.{Done, done, is_closed, put_node, add_file, take_out, drop_path, move_file, add_path}

-- mkdir P: an empty directory at P
unfoldable pub mkdir : Session → List ℕ → Result Done Word
mkdir s p = do
  _ ← target s.tree p
  done (put_node s p Dir) answer.Okay

-- create P: an empty file at P
unfoldable pub create : Session → List ℕ → Result Done Word
create s p = do
  _ ← target s.tree p
  done (add_file s p []) answer.Okay

-- the root stays
abbrev pub is_not_root : List ℕ → Result (Unit {0}) Word
is_not_root p = if bytes_eq p root then Err Root else Ok tt

-- rmdir P: the empty directory P is taken out
unfoldable pub rmdir : Session → List ℕ → Result Done Word
rmdir s p = do
  _ ← is_not_root p
  _ ← is_directory (get s.tree p)
  _ ← is_empty s.tree p
  done (take_out s p) answer.Okay

-- unlink P: the path P is taken out; with its last path the file is gone
unfoldable pub unlink : Session → List ℕ → Result Done Word
unlink s p = do
  bytes ← source s.tree p
  _ ← is_closed s p
  done (drop_path s p bytes) answer.Okay

-- rename P Q: the path P of a file becomes Q; its other paths stay
unfoldable pub rename : Session → List ℕ → List ℕ → Result Done Word
rename s p q = do
  bytes ← source s.tree p
  _ ← is_closed s p
  _ ← target s.tree q
  done (move_file s p q bytes) answer.Okay

-- link P Q: Q is one more path of the file P
unfoldable pub link : Session → List ℕ → List ℕ → Result Done Word
link s p q = do
  bytes ← source s.tree p
  _ ← target s.tree q
  done (add_path s p q bytes) answer.Okay

-- list P: the names in the directory P
unfoldable pub list : Session → List ℕ → Result Done Word
list s p = do
  _ ← is_directory (get s.tree p)
  done s (answer.Names (names_in s.tree p))

abbrev pub shown_node : Option TreeNode → Result Answer Word
shown_node (Some Dir) = Ok answer.Dir
shown_node (Some (File paths bytes)) = Ok (answer.File (length bytes) (path_count paths))
shown_node None = Err NoEnt

-- stat P: what stands at P, and a file's length and how many paths it has
unfoldable pub stat : Session → List ℕ → Result Done Word
stat s p = do
  shown ← shown_node (get s.tree p)
  done s shown
