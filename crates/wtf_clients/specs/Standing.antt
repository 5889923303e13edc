-- When the tables stand for the machine of the definitions: committed transactions ran whole, one by one, on one tree.
-- NSDI 2016, sections 2.6 and 2.7.
use Rattle.std.specs.Prelude.{◌≡◌, ◌≤◌, ◌<◌, ◌-◌, ◌^◌, ℕ, Bool, true, false, min, nat_lt, List, Option, Some, None, option_map, IsTrue, ⊤}
use Rattle.std.specs.List.{Contains}
use Rattle.std.specs.FinMap.{get}
use Rattle.wtf_kv.specs.Stores.{Store, is_live}
use Rattle.wtf_values.specs.declared.key.Key.{Key}
use Rattle.wtf_values.specs.declared.key.Key.TheVariants.{Region}
use Rattle.wtf_values.specs.declared.region.RegionValue.{RegionValue}
use Rattle.wtf_values.specs.declared.value.Value.{Value}
use Rattle.wtf_values.specs.declared.value.Value.TheVariants as value
use Rattle.wtf_model.specs.Tree.{Tree, root_alone}
use Rattle.wtf_model.specs.Transaction.{Transaction, Job}
use Rattle.wtf_model.specs.Machines.{Machine}
use Rattle.wtf_model.specs.Scans.{was_open}
use Rattle.wtf_meta.specs.Bytes.{MaybeBytes}
use Rattle.wtf_meta.specs.Contents.{Told, is_told, is_listed}
use Rattle.wtf_meta.specs.Maps.{Map, metadata_at}
use Rattle.wtf_meta.specs.Trees.{LeadsTo, Stands}
use Rattle.wtf_image.specs.Savable.{AreBefore}
use Rattle.wtf_replay.specs.Views.{TxnView}
use Rattle.wtf_replay.specs.Sounds.{LogStands}
use Rattle.wtf_compact.specs.Jobs.{JobView, target_region}
use Rattle.wtf_compact.specs.Planned.{KeepsRegion}
use Rattle.wtf_gc.specs.Views.{RunView}
use Rattle.wtf_clients.specs.Views.{TablesView, of_client, of_label, was_job, metadata_now}
use Rattle.wtf_clients.specs.Touched.{Touched, above, SinceBase}

-- A transaction is that of the machine: the same calls with what was shown of them, as many of them done, on the same base.
-- The map at the base stands for the tree there, and the map now, in which none of its inodes stands, for the tree now. What has
-- changed since the base was touched.
pub record StandsForTxn (size : ℕ) (told : Told) (kv : Store Key Value) (current : Tree) (x : TxnView) (t : Transaction) : Type 0 where
  pub sound : LogStands size kv told x t.ops
  pub base : t.base ≡ x.at.base
  pub shown : t.shown ≡ x.log.shown
  pub replayed : t.replayed ≡ x.replayed
  pub tree : Stands size told x.tx 0 (metadata_at kv x.at.base) t.tree
  pub now : Stands size told x.tx 0 (metadata_now kv) current
  pub since : SinceBase kv x.tx x.at.base t.touched

abbrev pub StandsForSlot : ℕ → Told → Store Key Value → Tree → Option TxnView → Option Transaction → Type 0
StandsForSlot size told kv now None None = ⊤
StandsForSlot size told kv now (Some x) (Some t) = StandsForTxn size told kv now x t
StandsForSlot size told kv now x t = ⊥

-- A job is that of the machine: of the same path, region and kind, on the same base. What it is to put has the end and the bytes of its
-- region at the base, where the path led to the region's file; each byte of the region is told there, also of its base's list. What has
-- changed since the base was touched.
pub record StandsForJob (size : ℕ) (told : Told) (kv : Store Key Value) (x : JobView) (t : Job) : Type 0 where
  pub path : t.path ≡ x.path
  pub region : t.region ≡ x.target.region
  pub kind : t.kind ≡ x.target.kind
  pub base : t.base ≡ x.base
  pub leads : LeadsTo (metadata_at kv x.base) x.path x.target.inode
  pub known : MaybeBytes (is_told told) (is_listed size told) (target_region (metadata_at kv x.base) x.target)
  pub keeps : KeepsRegion size told (target_region (metadata_at kv x.base) x.target) x.value
  pub touched : Touched (metadata_at kv x.base) (metadata_now kv) (above kv x.base) t.touched

abbrev pub StandsForLabel : ℕ → Told → Store Key Value → Option JobView → Option Job → Type 0
StandsForLabel size told kv None None = ⊤
StandsForLabel size told kv (Some x) (Some t) = StandsForJob size told kv x t
StandsForLabel size told kv x t = ⊥

-- The map at a number stands for one of these trees, also for each transaction to come: its inodes are of those before.
pub record IsImageTree (size : ℕ) (told : Told) (tables : TablesView) (n : ℕ) (may : List Tree) : Type 0 where
  pub tree : Tree
  pub listed : Contains may tree
  pub before : AreBefore tables.next_tx (metadata_at tables.kv n)
  pub stands : (tx : ℕ) → tables.next_tx ≤ tx → Stands size told tx 0 (metadata_at tables.kv n) tree

-- The number of installs, each client's transaction, each label's job, and the tree now, on which no inode of a later transaction stands, are
-- the machine's. Each image that may be on the keeper is that of a tree that the machine may have saved; where the keeper may
-- hold nothing, the root alone is such a tree.
pub record TablesStand (size : ℕ) (told : Told) (tables : TablesView) (m : Machine) : Type 0 where
  pub number : m.number ≡ tables.kv.number
  pub each : (c : ℕ) → StandsForSlot size told tables.kv m.now (of_client tables.clients c) (get m.transactions c)
  pub jobs : (j : ℕ) → StandsForLabel size told tables.kv (of_label tables.beside.jobs j) (get m.jobs j)
  pub later : (tx : ℕ) → tables.next_tx ≤ tx → Stands size told tx 0 (metadata_now tables.kv) m.now
  pub before : AreBefore tables.next_tx (metadata_now tables.kv)
  pub none : tables.beside.none ≡ true → Contains m.may_be_saved root_alone
  pub images : (n : ℕ) → Contains tables.beside.images n → IsImageTree size told tables n m.may_be_saved

-- What the machine and the tables know of the open ones' age. Each stamp of the machine is of a line before the next one that makes one. The
-- stamps of transactions ascend as their numbers do. What was open when the last scan began is, of transactions, what has a number below
-- `scan_tx`, and, of jobs, what has a label that is marked.
pub record StampsStand (tables : TablesView) (m : Machine) : Type 0 where
  pub listed : (s : ℕ) → Contains m.scan_list s → s < m.next_stamp
  pub begun : tables.beside.scan_tx ≤ tables.next_tx
  pub txns : (c : ℕ) (x : TxnView) (t : Transaction) → of_client tables.clients c ≡ Some x → get m.transactions c ≡ Some t
      → (t.stamp < m.next_stamp) × (was_open m t.stamp ≡ nat_lt x.tx tables.beside.scan_tx)
  pub order : (c d : ℕ) (x y : TxnView) (t u : Transaction) → of_client tables.clients c ≡ Some x → get m.transactions c ≡ Some t
      → of_client tables.clients d ≡ Some y → get m.transactions d ≡ Some u → x.tx < y.tx → t.stamp < u.stamp
  pub jobs : (j : ℕ) (x : JobView) (t : Job) → of_label tables.beside.jobs j ≡ Some x → get m.jobs j ≡ Some t
      → (t.stamp < m.next_stamp) × (was_open m t.stamp ≡ was_job tables.beside j)

-- only the key of a region has a region's value
abbrev pub is_region_key : Key → Bool
is_region_key (Region i r) = true
is_region_key q = false

abbrev pub HasKinds : Map → Type 0
HasKinds w = (q : Key) (v : RegionValue) → w q ≡ Some (value.Region v) → is_region_key q ≡ true

-- The scans are those of the machine: as many parts are left of one that runs, and as many have finished, up to the greatest number that the
-- tables count to. In each map that can be read only regions name bytes: the others are no parts of a scan.
pub record ScansStand (tables : TablesView) (m : Machine) : Type 0 where
  pub stamps : StampsStand tables m
  pub parts : m.parts_left ≡ option_map (λ (r : RunView). r.left) tables.beside.gc.running
  pub some : (r : RunView) → tables.beside.gc.running ≡ Some r → 0 < r.left
  pub scans : tables.beside.gc.finished ≡ min m.scans (2 ^ 64 - 1)
  pub kinds : (n : ℕ) → IsTrue (is_live tables.kv n) → HasKinds (metadata_at tables.kv n)
