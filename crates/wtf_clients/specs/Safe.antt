-- The invariant by which collection is safe: what was freed is named by nothing, and no more is what may be freed.
-- NSDI 2016, section 2.8 (garbage collection in two scans); parts, marks and the owners of slices are this store's own.
use Rattle.std.specs.Prelude.{◌≡◌, ℕ, ◌<◌, ◌≤◌, ◌-◌, Bool, true, false, not, ◌&&◌, nat_eq, nat_lt, List, [], Option, None, Some, IsTrue, ⊤}
use Rattle.std.specs.List.{list_any}
use Rattle.wtf_base.specs.declared.ids.InodeId.{InodeId}
use Rattle.wtf_overlay.specs.Origin.{Place}
use Rattle.wtf_kv.specs.Stores.{Store, is_pinned}
use Rattle.wtf_values.specs.declared.key.Key.{Key}
use Rattle.wtf_values.specs.declared.region.RegionValue.{RegionValue}
use Rattle.wtf_values.specs.declared.value.Value.{Value}
use Rattle.wtf_model.specs.declared.limits.TheConstants.{SCAN_PARTS}
use Rattle.wtf_meta.specs.Bytes.{MapBytes, MaybeBytes, BaseBytes, any_slice, are_in}
use Rattle.wtf_meta.specs.Contents.{Told}
use Rattle.wtf_meta.specs.Maps.{metadata_at}
use Rattle.wtf_replay.specs.Views.{TxnView}
use Rattle.wtf_replay.specs.Insides.{LogBytes, TxnBytes, lists_have}
use Rattle.wtf_compact.specs.Jobs.{JobView, region_in_map, target_region}
use Rattle.wtf_gc.specs.Extents.{extents_cover}
use Rattle.wtf_gc.specs.Parts.{part_of}
use Rattle.wtf_gc.specs.Views.{ScanView, RunView, GcView, mark_of}
use Rattle.wtf_clients.specs.Views.{TablesView, of_client, of_label, was_job}
use Rattle.wtf_clients.specs.Named.{ListedBytes}

-- none of these places is in the set
abbrev pub off : (Place → Bool) → List Place → Bool
off X places = are_in (λ p. not (X p)) places

-- the tables name no byte of the set, nor do the lists of bases, as stores that tell this decode them, for a region of so many bytes
abbrev pub NamesNone : ℕ → Told → (Place → Bool) → TablesView → Type 0
NamesNone size told X tables = ListedBytes size told (off X) tables

-- a byte lies below a scan's mark of its file
abbrev pub is_below : ScanView → Place → Bool
is_below s p = nat_lt p.at (mark_of s p.server p.file)

-- the scan that began last: the one that runs, or else the last that has finished
abbrev pub scan_of : Option RunView → ScanView → ScanView
scan_of None newer = newer
scan_of (Some r) newer = r.scan

abbrev pub last_scan : GcView → ScanView
last_scan gc = scan_of gc.running gc.newer

-- P holds of each byte of the slice that a job stored, which is that of its value's base, if it has one
abbrev pub OwnBytes : (List Place → Bool) → Option RegionValue → Type 0
OwnBytes P None = ⊤
OwnBytes P (Some v) = BaseBytes P any_slice v.base

-- What a transaction names is named by the map at its base, or it stored that itself.
abbrev pub IsOwnTxn : ℕ → Told → Store Key Value → TxnView → Type 0
IsOwnTxn size told kv x = (P : List Place → Bool) → P [] ≡ true → MapBytes P (lists_have size told P) (metadata_at kv x.at.base) → LogBytes P x.log
    → TxnBytes P (lists_have size told P) kv x

-- What a job names is named by its region at its base, or it stored that itself.
abbrev pub IsOwnJob : ℕ → Told → Store Key Value → JobView → Type 0
IsOwnJob size told kv x = (P : List Place → Bool) → P [] ≡ true
    → MaybeBytes P (lists_have size told P) (target_region (metadata_at kv x.base) x.target) → OwnBytes P x.value
    → MaybeBytes P (lists_have size told P) x.value

-- A set of bytes that a scan which runs would miss: they lie below the marks of the one before it, it has not found them, and no region
-- of a part that is left names one at a number that it has pinned.
pub record IsMissed (size : ℕ) (told : Told) (kv : Store Key Value) (newer : ScanView) (r : RunView) (X : Place → Bool) : Type 0 where
  pub below : (p : Place) → X p ≡ true → is_below newer p ≡ true
  pub unfound : (p : Place) → X p ≡ true → extents_cover r.scan.found p ≡ false
  pub ahead : (n : ℕ) → list_any (nat_eq n) r.seen ≡ true → (i : InodeId) (k : ℕ) → SCAN_PARTS - r.left ≤ part_of i
      → MaybeBytes (off X) (lists_have size told (off X)) (region_in_map (metadata_at kv n) i k)

-- each mark of a scan is at most its file's length
abbrev pub AreUpto : ScanView → (ℕ → ℕ → ℕ) → Type 0
AreUpto s length = (k f : ℕ) → mark_of s k f ≤ length k f

-- the same of all scans, and what was freed lies in the files; this holds over every device
pub record LieIn (gc : GcView) (length : ℕ → ℕ → ℕ) : Type 0 where
  pub older : AreUpto gc.older length
  pub newer : AreUpto gc.newer length
  pub last : AreUpto (last_scan gc) length
  pub freed : (p : Place) → extents_cover gc.freed p ≡ true → p.at < length p.server p.file

-- What was freed is named by nothing. Each byte below the marks of the first of the last two scans that anything names was found by the
-- second of them; and each below those of the second, while a scan runs, was found by that one or will be. A transaction or a job that was
-- not open when the last scan began has stored only bytes that lie past its marks, and names no other than these and what its base names.
pub record IsSafe (size : ℕ) (told : Told) (tables : TablesView) : Type 0 where
  pub gone : NamesNone size told (extents_cover tables.beside.gc.freed) tables
  pub done : NamesNone size told (λ p. is_below tables.beside.gc.older p && not (extents_cover tables.beside.gc.newer.found p)) tables
  pub going : (r : RunView) → tables.beside.gc.running ≡ Some r → (X : Place → Bool)
      → IsMissed size told tables.kv tables.beside.gc.newer r X → NamesNone size told X tables
  pub since_txns : (c : ℕ) (x : TxnView) → of_client tables.clients c ≡ Some x → tables.beside.scan_tx ≤ x.tx
      → LogBytes (off (is_below (last_scan tables.beside.gc))) x.log
  pub since_jobs : (j : ℕ) (x : JobView) → of_label tables.beside.jobs j ≡ Some x → was_job tables.beside j ≡ false
      → OwnBytes (off (is_below (last_scan tables.beside.gc))) x.value
  pub own_txns : (c : ℕ) (x : TxnView) → of_client tables.clients c ≡ Some x → IsOwnTxn size told tables.kv x
  pub own_jobs : (j : ℕ) (x : JobView) → of_label tables.beside.jobs j ≡ Some x → IsOwnJob size told tables.kv x

-- ---- what a line that is no scan and no collection does to what is named
-- A transaction goes on from one of the same number, or it began with the line. What it stored it had stored, or that was just added.
abbrev pub FollowsTxn : ((List Place → Bool) → Type 0) → Option TxnView → TxnView → Type 0
FollowsTxn Added None y = (P : List Place → Bool) → Added P → LogBytes P y.log
FollowsTxn Added (Some x) y = (y.tx ≡ x.tx) × ((P : List Place → Bool) → Added P → LogBytes P x.log → LogBytes P y.log)

-- A job stays what it was, or it was planned by the line. What it stored was then just added.
abbrev pub FollowsJob : ((List Place → Bool) → Type 0) → Option JobView → JobView → Type 0
FollowsJob Added None y = (P : List Place → Bool) → Added P → OwnBytes P y.value
FollowsJob Added (Some x) y = y ≡ x

-- Where `Added` says of a test that it holds of each byte that the line added, and of the stores, which tell this before it and that
-- later: what holds of each byte that was named and of each that was added holds of each that is named. Maps that are pinned stay. The
-- scans stay, and whoever is open goes on from who was, and still names only what its base names or it stored itself.
pub record Went (size : ℕ) (told later : Told) (Added : (List Place → Bool) → Type 0) (old new : TablesView) : Type 0 where
  pub carries : (P : List Place → Bool) → P [] ≡ true → Added P → ListedBytes size told P old → ListedBytes size later P new
  pub maps : (n : ℕ) → IsTrue (is_pinned new.kv n) → metadata_at new.kv n ≡ metadata_at old.kv n
  pub gc : new.beside.gc ≡ old.beside.gc
  pub scan_tx : new.beside.scan_tx ≡ old.beside.scan_tx
  pub txns : (c : ℕ) (y : TxnView) → of_client new.clients c ≡ Some y → FollowsTxn Added (of_client old.clients c) y
  pub jobs : (j : ℕ) (y : JobView) → of_label new.beside.jobs j ≡ Some y → FollowsJob Added (of_label old.beside.jobs j) y
  pub scan_jobs : (j : ℕ) (x : JobView) → of_label old.beside.jobs j ≡ Some x → was_job new.beside j ≡ was_job old.beside j
  pub own_txns : ((c : ℕ) (x : TxnView) → of_client old.clients c ≡ Some x → IsOwnTxn size told old.kv x)
      → (c : ℕ) (y : TxnView) → of_client new.clients c ≡ Some y → IsOwnTxn size later new.kv y
  pub own_jobs : ((j : ℕ) (x : JobView) → of_label old.beside.jobs j ≡ Some x → IsOwnJob size told old.kv x)
      → (j : ℕ) (y : JobView) → of_label new.beside.jobs j ≡ Some y → IsOwnJob size later new.kv y
