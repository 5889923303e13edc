-- Which images are taken: the rules of settings and numbers, of the tree, and of pointers.
use Rattle.std.specs.Prelude.{◌≡◌, ℕ, ◌+◌, ◌<◌, ◌≤◌, ◌^◌, Bool, true, false, ◌&&◌, ◌||◌, ◌==◌, nat_lt, nat_le, List, Option, None, Some, is_some}
use Rattle.std.specs.Int.{bit_at}
use Rattle.std.specs.List.{list_all, list_any}
use Rattle.wtf_base.specs.Limits.{AreSettings}
use Rattle.wtf_base.specs.declared.ids.InodeId.{InodeId}
use Rattle.wtf_base.specs.declared.pointer.Pointer.{Pointer}
use Rattle.wtf_model.specs.Tree.{root}
use Rattle.wtf_path.specs.Parts.{parent_of}
pub use Rattle.wtf_replica.specs.Inside.{size_in, lies_inside}
use Rattle.wtf_values.specs.declared.value.Node.{Node}
use Rattle.wtf_values.specs.declared.value.Node.TheVariants.{Folder, File}
use Rattle.wtf_imagefmt.specs.declared.records.Version.{Version}
use Rattle.wtf_imagefmt.specs.declared.records.Version.TheVariants.{One, Two}
use Rattle.wtf_imagefmt.specs.declared.records.PathRecord.{PathRecord}
use Rattle.wtf_imagefmt.specs.Rows.{BaseRow, RegionRow, FileRow, ImageRows}
use Rattle.wtf_imagefmt.specs.Lookups.{node_at, last_at, times_named}

-- ---- settings and numbers

-- an inode of a transaction before this one
abbrev pub is_before : ℕ → InodeId → Bool
is_before tx i = nat_lt i.tx.0 tx

abbrev pub is_node_before : ℕ → Node → Bool
is_node_before tx Folder = true
is_node_before tx (File i) = is_before tx i

-- the settings keep their limits, the numbers theirs, and each inode is of a transaction before the next one
pub record AreGoodSettings (x : ImageRows) : Type 0 where
  pub settings : AreSettings x.header.servers x.header.replicas x.header.region
  pub installs : x.header.installs ≤ 2 ^ 62
  pub next_tx : x.header.next_tx ≤ 2 ^ 62
  pub some : 0 < x.header.next_tx
  pub paths : list_all (λ r. is_node_before x.header.next_tx r.node) x.paths ≡ true
  pub files : list_all (λ f. is_before x.header.next_tx f.inode) x.files ≡ true

-- ---- the tree

abbrev pub is_folder : Option Node → Bool
is_folder None = false
is_folder (Some Folder) = true
is_folder (Some (File i)) = false

-- a path stands in a directory; the root stands in none
abbrev pub is_in_folder : List PathRecord → Option (List ℕ) → Bool
is_in_folder rs None = true
is_in_folder rs (Some dir) = is_folder (node_at rs dir)

abbrev pub has_parent : List PathRecord → PathRecord → Bool
has_parent rs r = is_in_folder rs (parent_of r.path)

-- an inode is named so often: in the first version by one path, in the second by one or more
abbrev pub is_named_times : Version → ℕ → Bool
is_named_times One n = n == 1
is_named_times Two n = nat_le 1 n

abbrev pub is_named : Version → List PathRecord → FileRow → Bool
is_named v rs f = is_named_times v (times_named rs f.inode)

-- the inode that a path names has a record
abbrev pub is_recorded_node : List FileRow → Node → Bool
is_recorded_node fs Folder = true
is_recorded_node fs (File i) = is_some (last_at fs i)

abbrev pub is_recorded : List FileRow → PathRecord → Bool
is_recorded fs r = is_recorded_node fs r.node

-- a region up to the last one, of at most b bytes
abbrev pub is_good_region : ℕ → ℕ → RegionRow → Bool
is_good_region b last r = nat_le r.number last && nat_le r.end b

-- the last region, with bytes
abbrev pub is_last : ℕ → RegionRow → Bool
is_last last r = r.number == last && nat_lt 0 r.end

-- a file's last region is there and has bytes, unless it is the first
abbrev pub is_good_file : ℕ → FileRow → Bool
is_good_file b f = nat_le f.last 4095 && (list_all (is_good_region b f.last) f.regions && (f.last == 0 || list_any (is_last f.last) f.regions))

-- the root is a directory, and so is each path's parent; each file is named as often as the version lets it be, and each path's
-- file has a record; and the regions of each file are good
pub record IsGoodTree (x : ImageRows) : Type 0 where
  pub top : is_folder (node_at x.paths root) ≡ true
  pub parents : list_all (has_parent x.paths) x.paths ≡ true
  pub named : list_all (is_named x.version x.paths) x.files ≡ true
  pub recorded : list_all (is_recorded x.files) x.paths ≡ true
  pub files : list_all (is_good_file x.header.region) x.files ≡ true

-- ---- pointers

-- the servers whose bits a mask sets, and no server
abbrev pub is_lost : ℕ → ℕ → Bool
is_lost mask k = bit_at mask k == 1

abbrev pub none_lost : ℕ → Bool
none_lost k = false

-- an extent lies inside the stores of so many servers, in one of their eight files, where each file has such a size; the sizes
-- on lost servers are not looked at
abbrev pub lies_inside_without : (ℕ → Bool) → ℕ → (ℕ → ℕ → ℕ) → Pointer → Bool
lies_inside_without lost servers size p =
    nat_lt p.server.0 servers && (nat_lt p.file 8 && (lost p.server.0 || nat_le (p.at + p.len) (size p.server.0 p.file)))

abbrev pub is_part_inside_without : (ℕ → Bool) → ℕ → (ℕ → ℕ → ℕ) → Option (List Pointer) → Bool
is_part_inside_without lost servers size None = true
is_part_inside_without lost servers size (Some ps) = list_all (lies_inside_without lost servers size) ps

abbrev pub is_base_inside_without : (ℕ → Bool) → ℕ → (ℕ → ℕ → ℕ) → Option BaseRow → Bool
is_base_inside_without lost servers size None = true
is_base_inside_without lost servers size (Some b) = list_all (lies_inside_without lost servers size) b.pointers

abbrev pub is_region_inside_without : (ℕ → Bool) → ℕ → (ℕ → ℕ → ℕ) → RegionRow → Bool
is_region_inside_without lost servers size r =
    is_base_inside_without lost servers size r.base && list_all (λ e. is_part_inside_without lost servers size e.part) r.entries

abbrev pub is_file_inside_without : (ℕ → Bool) → ℕ → (ℕ → ℕ → ℕ) → FileRow → Bool
is_file_inside_without lost servers size f = list_all (is_region_inside_without lost servers size) f.regions

-- all pointers of an image lie inside the stores; those in its spilled lists are not looked at
abbrev pub are_inside_without : (ℕ → Bool) → (ℕ → ℕ → ℕ) → ImageRows → Bool
are_inside_without lost size x = list_all (is_file_inside_without lost x.header.servers size) x.files

-- the same where no server is lost
abbrev pub is_part_inside : ℕ → (ℕ → ℕ → ℕ) → Option (List Pointer) → Bool
is_part_inside servers size part = is_part_inside_without none_lost servers size part

abbrev pub is_base_inside : ℕ → (ℕ → ℕ → ℕ) → Option BaseRow → Bool
is_base_inside servers size base = is_base_inside_without none_lost servers size base

abbrev pub is_region_inside : ℕ → (ℕ → ℕ → ℕ) → RegionRow → Bool
is_region_inside servers size r = is_region_inside_without none_lost servers size r

abbrev pub is_file_inside : ℕ → (ℕ → ℕ → ℕ) → FileRow → Bool
is_file_inside servers size f = is_file_inside_without none_lost servers size f

abbrev pub are_inside : (ℕ → ℕ → ℕ) → ImageRows → Bool
are_inside size x = are_inside_without none_lost size x
