-- The tree of files: one finite map from paths to directories and files. A path is its bytes.
-- NSDI 2016, section 2.4 (one map from paths to inodes, directories kept beside it).
use Rattle.std.specs.Prelude.{◌≡◌, ℕ, Bool, true, false, List, [], ◌∷◌, ◌++◌, map, length, filter, bytes_eq, Option, Some, None, IsSome, Result, Ok, Err}
use Rattle.std.specs.FinSet.{FinSet}
use Rattle.std.specs.FinMap.{FinMap, get, insert, remove, empty, contains_key, entries, keys, len}
use Rattle.std.specs.Cmp.Lexicographic.{slice_cmp}
use Rattle.std.specs.Ordering.{nat_cmp}
use Rattle.wtf_path.specs.Grammar.{IsPath}
use Rattle.wtf_path.specs.Parts.{parent_of, name_of}
use Rattle.wtf_model.specs.declared.lists.Row.{Row}
use Rattle.wtf_model.specs.declared.answer.Word.{Word}
use Rattle.wtf_model.specs.declared.answer.Word.TheVariants.{Exists, NoParent, NoEnt, NotDir, NotEmpty, IsDir}

-- a set of paths
abbrev pub PathSet : Type 0
PathSet = FinSet (slice_cmp nat_cmp)

-- the set with no path, and that of one path alone
abbrev pub no_paths : PathSet
no_paths = empty

abbrev pub only_path : List ℕ → PathSet
only_path p = insert no_paths p tt

-- whether a set has a path; a set with one more, and with one less
abbrev pub has_path : PathSet → List ℕ → Bool
has_path paths p = contains_key paths p

abbrev pub with_path : PathSet → List ℕ → PathSet
with_path paths p = insert paths p tt

abbrev pub without_path : PathSet → List ℕ → PathSet
without_path paths p = remove paths p

-- the paths of a set, in byte order, and how many they are
abbrev pub path_list : PathSet → List (List ℕ)
path_list paths = keys paths

abbrev pub path_count : PathSet → ℕ
path_count paths = len paths

-- what stands at a path: a directory, or a file with all its paths and its bytes
pub data TreeNode : Type 0 where
  Dir : TreeNode
  File : (paths : PathSet) (bytes : List ℕ) → TreeNode

abbrev pub Tree : Type 0
Tree = FinMap (slice_cmp nat_cmp) TreeNode

-- the path of the root, `/`
abbrev pub root : List ℕ
root = 47 ∷ []

-- the tree with the root alone
abbrev pub root_alone : Tree
root_alone = insert empty root Dir

-- a file that stands at a path knows this path, and stands at each path that it knows
pub record IsShared (t : Tree) (p : List ℕ) (paths : PathSet) (bytes : List ℕ) : Type 0 where
  pub own : has_path paths p ≡ true
  pub each : (q : List ℕ) → has_path paths q ≡ true → get t q ≡ Some (File paths bytes)

-- Each key is a path; the root is a directory, and so is the parent of each other path. The paths of a file are just those at
-- which the tree has it: at another path stands a file with other paths.
pub record IsTree (t : Tree) : Type 0 where
  pub paths : (p : List ℕ) → IsSome (get t p) → IsPath p
  pub top : get t root ≡ Some Dir
  pub parents : (p dir : List ℕ) → IsSome (get t p) → parent_of p ≡ Some dir → get t dir ≡ Some Dir
  pub shared : (p : List ℕ) (paths : PathSet) (bytes : List ℕ) → get t p ≡ Some (File paths bytes) → IsShared t p paths bytes

-- the refusals of a call are tried in order: the first one is its answer
infixl 10 ◌>>=◌
abbrev pub ◌>>=◌ : {A B : Type 0} → Result A Word → (A → Result B Word) → Result B Word
Ok x >>= f = f x
Err w >>= f = Err w

-- nothing stands there yet
abbrev pub is_free : Option TreeNode → Result (Unit {0}) Word
is_free None = Ok tt
is_free (Some n) = Err Exists

-- a directory stands there
abbrev pub is_parent : Option TreeNode → Result (Unit {0}) Word
is_parent (Some Dir) = Ok tt
is_parent (Some (File paths bytes)) = Err NoParent
is_parent None = Err NoParent

-- a directory stands there, which a call names
abbrev pub is_directory : Option TreeNode → Result (Unit {0}) Word
is_directory (Some Dir) = Ok tt
is_directory (Some (File paths bytes)) = Err NotDir
is_directory None = Err NoEnt

-- a file stands there, and these are its bytes
abbrev pub bytes_of : Option TreeNode → Result (List ℕ) Word
bytes_of (Some (File paths bytes)) = Ok bytes
bytes_of (Some Dir) = Err IsDir
bytes_of None = Err NoEnt

-- all paths of the file that stands there; of what is no file, none
abbrev pub paths_of : Option TreeNode → PathSet
paths_of (Some (File paths bytes)) = paths
paths_of (Some Dir) = no_paths
paths_of None = no_paths

abbrev pub paths_at : Tree → List ℕ → PathSet
paths_at t p = paths_of (get t p)

-- what a new path needs: the root is there already; else its parent is a directory, and it is free
abbrev pub target_in : Tree → List ℕ → Option (List ℕ) → Result (Unit {0}) Word
target_in t p None = Err Exists
target_in t p (Some dir) = do
  _ ← is_parent (get t dir)
  is_free (get t p)

abbrev pub target : Tree → List ℕ → Result (Unit {0}) Word
target t p = target_in t p (parent_of p)

-- what a file that is named needs: its bytes
abbrev pub source : Tree → List ℕ → Result (List ℕ) Word
source t p = bytes_of (get t p)

-- a path stands in a directory
abbrev pub is_at : List ℕ → Option (List ℕ) → Bool
is_at dir None = false
is_at dir (Some up) = bytes_eq up dir

abbrev pub is_in : List ℕ → List ℕ → Bool
is_in dir p = is_at dir (parent_of p)

-- the paths and the names in a directory, in byte order
abbrev pub paths_in : Tree → List ℕ → List (List ℕ)
paths_in t dir = filter (is_in dir) (keys t)

abbrev pub names_in : Tree → List ℕ → List (List ℕ)
names_in t dir = map name_of (paths_in t dir)

abbrev pub are_none : List (List ℕ) → Result (Unit {0}) Word
are_none [] = Ok tt
are_none (p ∷ ps) = Err NotEmpty

-- nothing stands in a directory
abbrev pub is_empty : Tree → List ℕ → Result (Unit {0}) Word
is_empty t dir = are_none (paths_in t dir)

-- the bytes of files, one file behind the other
abbrev pub sources : Tree → List (List ℕ) → Result (List ℕ) Word
sources t [] = Ok []
sources t (p ∷ ps) = do
  bytes ← source t p
  rest ← sources t ps
  Ok (bytes ++ rest)

-- a tree as it is shown: each path in byte order, and the length of each file
abbrev pub shown_len : TreeNode → Option ℕ
shown_len Dir = None
shown_len (File paths bytes) = Some (length bytes)

abbrev pub shown_row : List ℕ × TreeNode → Row
shown_row (p, n) = record { path = p; len = shown_len n }

abbrev pub rows_of : Tree → List Row
rows_of t = map shown_row (entries t)
