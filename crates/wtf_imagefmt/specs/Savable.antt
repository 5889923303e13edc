-- Which metadata can be saved so that they are loaded again.
use Rattle.std.specs.Prelude.{◌≡◌, ◌≢◌, ℕ, ◌<◌, ◌≤◌, true, List, Option, None, Some, IsSome, ⊤}
use Rattle.wtf_base.specs.declared.ids.InodeId.{InodeId}
use Rattle.wtf_model.specs.Tree.{PathSet, has_path, path_count, root}
use Rattle.wtf_path.specs.Parts.{parent_of, name_of}
use Rattle.wtf_values.specs.Names.{NamesOf, has_name}
use Rattle.wtf_values.specs.declared.key.Key.TheVariants.{Path, Dir, Inode, Region, Links}
use Rattle.wtf_values.specs.declared.value.Node.TheVariants.{Folder, File}
use Rattle.wtf_imagefmt.specs.Lookups.{Plain, NodeIs, NamesAre, LastIs, RegionIs, CountIs, count_row}
use Rattle.wtf_imagefmt.specs.Shown.{Shown}

-- a value of the kind of its key
abbrev pub IsNodeValue : Option Plain → Type 0
IsNodeValue None = ⊤
IsNodeValue (Some (NodeIs n)) = ⊤
IsNodeValue (Some (NamesAre names)) = ⊥
IsNodeValue (Some (CountIs n)) = ⊥
IsNodeValue (Some (LastIs n)) = ⊥
IsNodeValue (Some (RegionIs end base entries)) = ⊥

abbrev pub IsLastValue : Option Plain → Type 0
IsLastValue None = ⊤
IsLastValue (Some (NodeIs n)) = ⊥
IsLastValue (Some (NamesAre names)) = ⊥
IsLastValue (Some (CountIs n)) = ⊥
IsLastValue (Some (LastIs n)) = ⊤
IsLastValue (Some (RegionIs end base entries)) = ⊥

abbrev pub IsRegionValue : Option Plain → Type 0
IsRegionValue None = ⊤
IsRegionValue (Some (NodeIs n)) = ⊥
IsRegionValue (Some (NamesAre names)) = ⊥
IsRegionValue (Some (CountIs n)) = ⊥
IsRegionValue (Some (LastIs n)) = ⊥
IsRegionValue (Some (RegionIs end base entries)) = ⊤

-- where a region ends, 0 where there is none
abbrev pub end_now : Option Plain → ℕ
end_now None = 0
end_now (Some (NodeIs n)) = 0
end_now (Some (NamesAre names)) = 0
end_now (Some (CountIs n)) = 0
end_now (Some (LastIs n)) = 0
end_now (Some (RegionIs end base entries)) = end

-- the set has just the names of what stands in a directory
pub record IsListingOf (m : Shown) (dir : List ℕ) (names : NamesOf) : Type 0 where
  pub each : (p : List ℕ) → parent_of p ≡ Some dir → IsSome (m (Path p)) → has_name names (name_of p) ≡ true
  pub only : (n : List ℕ) → has_name names n ≡ true → (p : List ℕ) × (parent_of p ≡ Some dir) × (name_of p ≡ n) × IsSome (m (Path p))

-- what a directory's key has
pub record HasListing (m : Shown) (dir : List ℕ) : Type 0 where
  pub names : NamesOf
  pub value : m (Dir dir) ≡ Some (NamesAre names)
  pub listing : IsListingOf m dir names

-- just these paths name an inode, and it has their number where they are several
pub record HasNames (m : Shown) (i : InodeId) : Type 0 where
  pub paths : PathSet
  pub lead : (p : List ℕ) → has_path paths p ≡ true → m (Path p) ≡ Some (NodeIs (File i))
  pub all : (p : List ℕ) → m (Path p) ≡ Some (NodeIs (File i)) → has_path paths p ≡ true
  pub count : m (Links i) ≡ count_row (path_count paths)

-- Metadata that can be saved with a next transaction number, where a region has at most b bytes: paths make a tree, and each
-- directory has its names beside it; each inode is named by a path, says how many do where they are several, has a
-- record, and is of an earlier transaction; a file's regions lie up to its last one, which has bytes unless it is the first.
pub record IsSavable (b next_tx : ℕ) (m : Shown) : Type 0 where
  pub begun : 0 < next_tx
  pub nodes : (p : List ℕ) → IsNodeValue (m (Path p))
  pub lasts : (i : InodeId) → IsLastValue (m (Inode i))
  pub regions : (i : InodeId) (r : ℕ) → IsRegionValue (m (Region i r))
  pub top : m (Path root) ≡ Some (NodeIs Folder)
  pub parents : (p dir : List ℕ) → IsSome (m (Path p)) → parent_of p ≡ Some dir → m (Path dir) ≡ Some (NodeIs Folder)
  pub folders : (p : List ℕ) → m (Path p) ≡ Some (NodeIs Folder) → HasListing m p
  pub no_names : (p : List ℕ) → m (Path p) ≢ Some (NodeIs Folder) → m (Dir p) ≡ None
  pub named : (i : InodeId) → IsSome (m (Inode i)) → HasNames m i
  pub led : (i : InodeId) → IsSome (m (Inode i)) → (p : List ℕ) × (m (Path p) ≡ Some (NodeIs (File i)))
  pub recorded : (p : List ℕ) (i : InodeId) → m (Path p) ≡ Some (NodeIs (File i)) → IsSome (m (Inode i))
  pub counted : (i : InodeId) → IsSome (m (Links i)) → IsSome (m (Inode i))
  pub before : (i : InodeId) → IsSome (m (Inode i)) → i.tx.0 < next_tx
  pub owned : (i : InodeId) (r : ℕ) → IsSome (m (Region i r)) → IsSome (m (Inode i))
  pub few : (i : InodeId) (n : ℕ) → m (Inode i) ≡ Some (LastIs n) → n < 4096
  pub ends : (i : InodeId) (r : ℕ) → end_now (m (Region i r)) ≤ b
  pub above : (i : InodeId) (n r : ℕ) → m (Inode i) ≡ Some (LastIs n) → n < r → m (Region i r) ≡ None
  pub bytes : (i : InodeId) (n : ℕ) → m (Inode i) ≡ Some (LastIs n) → 0 < n → 0 < end_now (m (Region i n))
