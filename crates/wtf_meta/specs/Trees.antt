-- When a map of metadata, over what the stores tell, stands for a tree of files.
-- NSDI 2016, section 2.4 (a path leads to its inode by one look-up, and directories are kept beside it).
use Rattle.std.specs.Prelude.{◌≡◌, ◌≢◌, ◌<◌, ℕ, ◌+◌, ◌^◌, nat_le, true, if◌then◌else◌, List, Option, None, Some, IsSome, ⊤}
use Rattle.std.specs.FinMap.{get, len}
use Rattle.wtf_base.specs.declared.ids.InodeId.{InodeId}
use Rattle.wtf_path.specs.Parts.{parent_of, name_of}
use Rattle.wtf_model.specs.Tree.{PathSet, has_path, path_count, Tree, TreeNode, Dir, File, root, IsTree}
use Rattle.wtf_values.specs.declared.key.Key.TheVariants.{Path, Dir as DirKey, Inode, Region, Links}
use Rattle.wtf_values.specs.declared.value.Node.TheVariants.{Folder, File as FileNode}
use Rattle.wtf_values.specs.declared.value.Value.{Value}
use Rattle.wtf_values.specs.declared.value.Value.TheVariants as value
use Rattle.wtf_values.specs.Names.{NamesOf, no_names, has_name}
use Rattle.wtf_meta.specs.Maps.{Map}
use Rattle.wtf_meta.specs.Bytes.{MapBytes}
use Rattle.wtf_meta.specs.Files.{IsFile}
use Rattle.wtf_meta.specs.Contents.{Told, is_told, is_listed, HasBytes}
use Rattle.wtf_meta.specs.FileEdits.{file_of, HasFile}

-- a path leads to a file's inode, or to a directory
abbrev pub LeadsTo : Map → List ℕ → InodeId → Type 0
LeadsTo w p i = w (Path p) ≡ Some (value.Node (FileNode i))

-- the inode has a file of these bytes, where a region has b
pub record IsBody (b : ℕ) (told : Told) (w : Map) (i : InodeId) (bytes : List ℕ) : Type 0 where
  pub has : HasFile i w
  pub file : IsFile b (file_of i w)
  pub bytes_are : HasBytes told b (file_of i w) bytes

-- how many paths a file has is kept where it has more than one
abbrev pub count_of : ℕ → Option Value
count_of n = if nat_le 2 n then Some (value.Count n) else None

-- the inode has a file of these bytes, just these paths lead to it, and it tells how many they are
pub record IsFileOf (b : ℕ) (told : Told) (w : Map) (i : InodeId) (paths : PathSet) (bytes : List ℕ) : Type 0 where
  pub body : IsBody b told w i bytes
  pub lead : (q : List ℕ) → has_path paths q ≡ true → LeadsTo w q i
  pub all : (q : List ℕ) → LeadsTo w q i → has_path paths q ≡ true
  pub count : w (Links i) ≡ count_of (path_count paths)

-- what a path's value stands for
abbrev pub NodeAt : ℕ → Told → Map → Option Value → Option TreeNode → Type 0
NodeAt b told w None None = ⊤
NodeAt b told w (Some (value.Node Folder)) (Some Dir) = ⊤
NodeAt b told w (Some (value.Node (FileNode i))) (Some (File paths bytes)) = IsFileOf b told w i paths bytes
NodeAt b told w v o = ⊥

-- the set has just the names of what stands in a directory of the tree
pub record IsListing (t : Tree) (dir : List ℕ) (names : NamesOf) : Type 0 where
  pub each : (p : List ℕ) → parent_of p ≡ Some dir → IsSome (get t p) → has_name names (name_of p) ≡ true
  pub only : (n : List ℕ) → has_name names n ≡ true → (p : List ℕ) × (parent_of p ≡ Some dir) × (name_of p ≡ n) × IsSome (get t p)

-- a directory has its names, and nothing else has some
abbrev pub NamesAt : Tree → List ℕ → Option Value → Option TreeNode → Type 0
NamesAt t p (Some (value.Names names)) (Some Dir) = IsListing t p names
NamesAt t p None None = ⊤
NamesAt t p None (Some (File paths bytes)) = ⊤
NamesAt t p v o = ⊥

-- The map stands for the tree: each path and each directory, and each file's paths and bytes; an inode is named by a path and has
-- its record, and only inodes have regions and numbers of paths; each byte of a region is told, also one that others hide, and so is the list of its
-- base, with each byte of it. Of the inodes of the transaction tx it has only those of its first k calls. The tree has so few paths
-- that each number of them can be kept: a call brings one at most.
pub record Stands (b : ℕ) (told : Told) (tx k : ℕ) (w : Map) (t : Tree) : Type 0 where
  pub tree_is : IsTree t
  pub nodes : (p : List ℕ) → NodeAt b told w (w (Path p)) (get t p)
  pub names : (p : List ℕ) → NamesAt t p (w (DirKey p)) (get t p)
  pub led : (i : InodeId) → IsSome (w (Inode i)) → (p : List ℕ) × LeadsTo w p i
  pub regions : (i : InodeId) (r : ℕ) → IsSome (w (Region i r)) → IsSome (w (Inode i))
  pub counted : (i : InodeId) → IsSome (w (Links i)) → IsSome (w (Inode i))
  pub bytes : MapBytes (is_told told) (is_listed b told) w
  pub fresh : (i : InodeId) → i.tx.0 ≡ tx → k < i.index → w (Inode i) ≡ None
  pub few : len t < 2 ^ 63 + k

-- inodes that come are of the transaction tx
abbrev pub Own : ℕ → Map → Map → Type 0
Own tx old new = (i : InodeId) → i.tx.0 ≢ tx → old (Inode i) ≡ None → new (Inode i) ≡ None

-- a map with the root alone, in which nothing stands
pub record IsFirst (w : Map) : Type 0 where
  pub top : w (Path root) ≡ Some (value.Node Folder)
  pub names : w (DirKey root) ≡ Some (value.Names no_names)
  pub paths : (p : List ℕ) → p ≢ root → w (Path p) ≡ None
  pub dirs : (p : List ℕ) → p ≢ root → w (DirKey p) ≡ None
  pub inodes : (i : InodeId) → w (Inode i) ≡ None
  pub regions : (i : InodeId) (r : ℕ) → w (Region i r) ≡ None
  pub counts : (i : InodeId) → w (Links i) ≡ None
