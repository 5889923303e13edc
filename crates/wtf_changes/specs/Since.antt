-- The changes of a store since a number: each path, file and region whose version lies above that, with what it is now.
use Rattle.std.specs.Prelude.{◌≡◌, ℕ, nat_lt, if◌then◌else◌, List, map, Option, None, Some}
use Rattle.std.specs.FinMap.Entries.{find}
use Rattle.std.specs.Ordering.{nat_cmp}
use Rattle.std.specs.Cmp.Lexicographic.{slice_cmp}
use Rattle.wtf_base.specs.declared.ids.InodeId.{InodeId}
use Rattle.wtf_kv.specs.Stores.{Store, version_of}
use Rattle.wtf_values.specs.Keys.{key_cmp, inode_cmp}
use Rattle.wtf_values.specs.declared.key.Key.{Key}
use Rattle.wtf_values.specs.declared.key.Key.TheVariants.{Path, Inode, Region}
use Rattle.wtf_values.specs.declared.value.Node.{Node}
use Rattle.wtf_values.specs.declared.value.Value.{Value}
use Rattle.wtf_imagefmt.specs.Lookups.{Plain, NodeIs, NamesAre, LastIs, RegionIs, CountIs, place_cmp}
use Rattle.wtf_imagefmt.specs.Rows.{ValueRow}
use Rattle.wtf_imagefmt.specs.Saving.{node_now, last_now}
use Rattle.wtf_imagefmt.specs.Shown.{shown}
use Rattle.wtf_changes.specs.declared.records.PathChange.{PathChange}
use Rattle.wtf_changes.specs.declared.records.FileChange.{FileChange}
use Rattle.wtf_changes.specs.Rows.{RegionChangeRow, ChangeRows}
use Rattle.wtf_changes.specs.Shapes.{HasChanges}
use Rattle.wtf_changes.specs.Drafts.{node_change}

abbrev pub last_change : FileChange → InodeId × Option ℕ
last_change c = (c.inode, c.last)

abbrev pub value_change : RegionChangeRow → (InodeId × ℕ) × Option ValueRow
value_change c = ((c.inode, c.number), c.value)

-- what is named, with what it is now; none for what is not named
abbrev pub path_named : List PathChange → List ℕ → Option (Option Node)
path_named cs p = find (slice_cmp nat_cmp) p (map node_change cs)

abbrev pub file_named : List FileChange → InodeId → Option (Option ℕ)
file_named cs i = find inode_cmp i (map last_change cs)

abbrev pub region_named : List RegionChangeRow → InodeId → ℕ → Option (Option ValueRow)
region_named cs i r = find place_cmp (i, r) (map value_change cs)

-- the value of a region
abbrev pub value_now : Option Plain → Option ValueRow
value_now None = None
value_now (Some (NodeIs n)) = None
value_now (Some (NamesAre names)) = None
value_now (Some (CountIs n)) = None
value_now (Some (LastIs n)) = None
value_now (Some (RegionIs end base entries)) = Some (record { end = end; base = base; entries = entries })

-- what changes say of a key that is this now: it is named where its version lies above a number
abbrev pub due : {A : Type 0} → Store Key Value → ℕ → Key → Option A → Option (Option A)
due kv since q now = if nat_lt since (version_of key_cmp kv kv.number q) then Some now else None

pub record AreChangesOf (kv : Store Key Value) (since next_tx : ℕ) (x : ChangeRows) : Type 0 where
  pub installs : x.installs ≡ kv.number
  pub next : x.next_tx ≡ next_tx
  pub paths : (p : List ℕ) → path_named x.paths p ≡ due kv since (Path p) (node_now (shown kv (Path p)))
  pub files : (i : InodeId) → file_named x.files i ≡ due kv since (Inode i) (last_now (shown kv (Inode i)))
  pub regions : (i : InodeId) (r : ℕ) → region_named x.regions i r ≡ due kv since (Region i r) (value_now (shown kv (Region i r)))

-- the bytes are the changes of a store since a number
pub record IsChangesOf (kv : Store Key Value) (since next_tx : ℕ) (bytes : List ℕ) : Type 0 where
  pub rows : ChangeRows
  pub text : HasChanges rows bytes
  pub are : AreChangesOf kv since next_tx rows
