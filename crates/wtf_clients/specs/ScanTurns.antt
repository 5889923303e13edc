-- What a line of a scan or a collection makes of the tables, over every device.
-- NSDI 2016, section 2.8 (garbage collection in two scans); parts and what holds a scan back are this store's own.
use Rattle.std.specs.Prelude.{◌≡◌, ◌<◌, ◌≤◌, ℕ, ◌&&◌, Bool, true, false, is_some, List, Option, Some, None, slice_get}
use Rattle.wtf_base.specs.declared.fault.Fault.{Fault}
use Rattle.wtf_dev.specs.Store.{StoreKind}
use Rattle.wtf_model.specs.declared.answer.Answer.{Answer}
use Rattle.wtf_model.specs.declared.answer.Answer.TheVariants as answer
use Rattle.wtf_model.specs.declared.answer.Word.TheVariants.{NoServer, ScanBusy, NoScan}
use Rattle.wtf_model.specs.declared.event.Holder.{Holder}
use Rattle.wtf_model.specs.declared.event.Holder.TheVariants as holder
use Rattle.wtf_region.specs.declared.dev.Dev.{Dev}
use Rattle.wtf_replay.specs.Causes.{fault_answer}
use Rattle.wtf_replay.specs.Views.{TxnView}
use Rattle.wtf_gc.specs.Scans.{StartsScan, DoesParts, IsPrunedFrom, IsPieceFault}
use Rattle.wtf_gc.specs.Frees.{FreesAll, FreesSome}
use Rattle.wtf_clients.specs.Views.{Clients, TablesView, BesideView, of_client, of_label, was_job, with_gc}

-- ---- what holds a scan back
-- a transaction that was open when the last scan began, of a number that no other has a lower one than
pub record HoldsBack (tables : TablesView) (c : ℕ) : Type 0 where
  pub txn : TxnView
  pub there : of_client tables.clients c ≡ Some txn
  pub old : txn.tx < tables.beside.scan_tx
  pub first : (d : ℕ) (y : TxnView) → of_client tables.clients d ≡ Some y → txn.tx ≤ y.tx

-- no transaction was
abbrev pub NoneOld : TablesView → Type 0
NoneOld tables = (c : ℕ) (x : TxnView) → of_client tables.clients c ≡ Some x → tables.beside.scan_tx ≤ x.tx

-- the client of the lowest number below a bound, or none
abbrev pub IsLeast : Clients → ℕ → Option ℕ → ℕ → Type 0
IsLeast clients bound None least = least ≡ bound
IsLeast clients bound (Some c) least = (x : TxnView) × (of_client clients c ≡ Some x) × (x.tx ≡ least) × (least < bound)

-- it is that of the first i entries
pub record SeesUpto (clients : Clients) (bound : ℕ) (first : Option ℕ) (least i : ℕ) : Type 0 where
  pub low : (j d : ℕ) (x y : TxnView) → j < i → slice_get clients j ≡ Some (d, x) → of_client clients d ≡ Some y → least ≤ y.tx
  pub which : IsLeast clients bound first least

-- a label has a job that was open when the last scan began
abbrev pub is_old_job : BesideView → ℕ → Bool
is_old_job beside j = is_some (of_label beside.jobs j) && was_job beside j

-- the lowest such label
pub record IsLowestOld (beside : BesideView) (j : ℕ) : Type 0 where
  pub old : is_old_job beside j ≡ true
  pub lowest : (l : ℕ) → l < j → is_old_job beside l ≡ false

abbrev pub NoOldJob : BesideView → Type 0
NoOldJob beside = (j : ℕ) → is_old_job beside j ≡ false

-- the client whose transaction began first of these, or, where there are only jobs, the lowest label
abbrev pub IsScanHolder : TablesView → Holder → Type 0
IsScanHolder tables (holder.Client c) = HoldsBack tables c
IsScanHolder tables (holder.Job j) = NoneOld tables × IsLowestOld tables.beside j

-- ---- a scan begins
-- None ran, and nothing holds it back. It has noted the lengths of the files and pinned each number that may be read once more; what is open
-- now is noted as what the next one waits for.
pub record StartsTurn {S : Type 0} (kind : StoreKind S) (shelf : List S) (old new : TablesView) : Type 0 where
  pub free : old.beside.gc.running ≡ None
  pub no_txn : NoneOld old
  pub no_job : NoOldJob old.beside
  pub starts : StartsScan kind shelf old.kv new.kv old.beside.gc new.beside.gc
  pub scan_tx : new.beside.scan_tx ≡ old.next_tx
  pub scan_jobs : (j : ℕ) → was_job new.beside j ≡ is_some (of_label old.beside.jobs j)
  pub beside : new.beside ≡ record old.beside { gc = new.beside.gc; scan_tx = new.beside.scan_tx; scan_jobs = new.beside.scan_jobs }
  pub clients : new.clients ≡ old.clients
  pub next_tx : new.next_tx ≡ old.next_tx

-- A scan that runs refuses another. What was open when the last one began, and is open still, holds one back. Both leave all as it was.
abbrev pub ScanTurn : {S : Type 0} → StoreKind S → List S → TablesView → TablesView → Answer → Type 0
ScanTurn kind shelf old new (answer.Refused ScanBusy) = (new ≡ old) × (is_some old.beside.gc.running ≡ true)
ScanTurn kind shelf old new (answer.Held h) = (new ≡ old) × (old.beside.gc.running ≡ None) × IsScanHolder old h
ScanTurn kind shelf old new answer.Scanning = StartsTurn kind shelf old new
ScanTurn kind shelf old new a = ⊥

-- ---- parts of a scan
-- all but the store of the metadata and the scans is what it was
pub record KeepsBut (old new : TablesView) : Type 0 where
  pub beside : new.beside ≡ with_gc old.beside new.beside.gc
  pub clients : new.clients ≡ old.clients
  pub next_tx : new.next_tx ≡ old.next_tx

-- versions that no one sees are gone, and all else is as it was
pub record IsPruned (old new : TablesView) : Type 0 where
  pub kv : IsPrunedFrom old.kv new.kv
  pub pins : new.kv.pins ≡ old.kv.pins
  pub clients : new.clients ≡ old.clients
  pub next_tx : new.next_tx ≡ old.next_tx
  pub beside : new.beside ≡ old.beside

-- the next parts were done, at most n of them, and so many are left then
pub record DoesTurn {S : Type 0} (kind : StoreKind S) (before after : Dev S) (old new : TablesView) (n left : ℕ) : Type 0 where
  pub does : DoesParts kind before after old.kv new.kv old.beside.gc new.beside.gc n left
  pub prunes : IsPrunedFrom old.kv new.kv
  pub keeps : KeepsBut old new

-- a list that these parts have to read was not read, and the scan is as it was
pub record PieceFails {S : Type 0} (kind : StoreKind S) (before after : Dev S) (old new : TablesView) (n : ℕ) (a : Answer) : Type 0 where
  pub why : Fault
  pub answer : fault_answer why ≡ Some a
  pub runs : is_some old.beside.gc.running ≡ true
  pub pruned : IsPruned old new
  pub cause : IsPieceFault kind before after new.kv old.beside.gc.running n why

-- the next n parts of the scan that runs
abbrev pub PieceTurn : {S : Type 0} → StoreKind S → (before after : Dev S) → TablesView → TablesView → ℕ → Answer → Type 0
PieceTurn kind before after old new n (answer.Refused NoScan) = (new ≡ old) × (after ≡ before) × (old.beside.gc.running ≡ None)
PieceTurn kind before after old new n (answer.More left) = (0 < left) × DoesTurn kind before after old new n left
PieceTurn kind before after old new n answer.Done = DoesTurn kind before after old new n 0
PieceTurn kind before after old new n a = PieceFails kind before after old new n a

-- ---- a collection
-- all but the scans is what it was
pub record KeepsStore (old new : TablesView) : Type 0 where
  pub kv : new.kv ≡ old.kv
  pub keeps : KeepsBut old new

-- all garbage of server k was freed, n bytes
pub record CollectsAll {S : Type 0} (kind : StoreKind S) (before after : Dev S) (old new : TablesView) (k n : ℕ) : Type 0 where
  pub twice : 2 ≤ old.beside.gc.finished
  pub frees : FreesAll kind k before after old.beside.gc new.beside.gc n
  pub keeps : KeepsStore old new

-- some of it was, and then the server failed
pub record CollectsSome {S : Type 0} (kind : StoreKind S) (before after : Dev S) (old new : TablesView) (k j : ℕ) : Type 0 where
  pub twice : 2 ≤ old.beside.gc.finished
  pub server : j ≡ k
  pub why : Fault
  pub answer : fault_answer why ≡ Some (answer.FaultPunch j)
  pub frees : FreesSome kind k before after old.beside.gc new.beside.gc why
  pub keeps : KeepsStore old new

-- What is garbage of server k is freed: there must be one, of so many, and two scans must have finished.
abbrev pub CollectTurn : {S : Type 0} → StoreKind S → (before after : Dev S) → TablesView → TablesView → ℕ → Answer → Type 0
CollectTurn kind before after old new k (answer.Refused NoServer) = (new ≡ old) × (after ≡ before) × (before.settings.servers ≤ k)
CollectTurn kind before after old new k (answer.Refused NoScan) =
    (new ≡ old) × (after ≡ before) × (k < before.settings.servers) × (old.beside.gc.finished < 2)
CollectTurn kind before after old new k (answer.Collected n) = (k < before.settings.servers) × CollectsAll kind before after old new k n
CollectTurn kind before after old new k (answer.FaultPunch j) = (k < before.settings.servers) × CollectsSome kind before after old new k j
CollectTurn kind before after old new k a = ⊥
