-- What a line asks of the stores: the bytes that it hands in, where they go, and why it may fail.
use Rattle.std.specs.Prelude.{◌≡◌, ◌⊎◌, ◌<◌, ◌*◌, ℕ, true, List, length, Some, ⊤, slice_get}
use Rattle.wtf_base.specs.declared.fault.Fault.{Fault}
use Rattle.wtf_base.specs.declared.ids.InodeId.{InodeId}
use Rattle.wtf_base.specs.declared.settings.Settings.{Settings}
use Rattle.wtf_base.specs.declared.slice.Slice.{Slice}
use Rattle.wtf_dev.specs.Store.{StoreKind}
use Rattle.wtf_ring.specs.Points.{PlaceView, IsRing}
use Rattle.wtf_replica.specs.Spans.{Span}
use Rattle.wtf_replica.specs.Copies.{IsStored}
use Rattle.wtf_replica.specs.Outs.{SameLengths}
use Rattle.wtf_replica.specs.Faults.{IsPunchFault}
use Rattle.wtf_overlay.specs.Origin.{Place}
use Rattle.wtf_kv.specs.Stores.{Store}
use Rattle.wtf_values.specs.declared.key.Key.{Key}
use Rattle.wtf_values.specs.declared.value.Value.{Value}
use Rattle.wtf_model.specs.declared.answer.Answer.{Answer}
use Rattle.wtf_model.specs.declared.answer.Answer.TheVariants as answer
use Rattle.wtf_model.specs.declared.event.Event.{Event}
use Rattle.wtf_model.specs.declared.event.Event.TheVariants as event
use Rattle.wtf_model.specs.declared.event.Verb.TheVariants as verb
use Rattle.wtf_model.specs.declared.op.JobKind.{JobKind}
use Rattle.wtf_model.specs.declared.op.JobKind.TheVariants.{Spill}
use Rattle.wtf_model.specs.declared.op.Op.{Op}
use Rattle.wtf_model.specs.declared.op.Op.TheVariants as op
use Rattle.wtf_meta.specs.declared.session.Handle.{Handle}
use Rattle.wtf_meta.specs.Files.{end_of}
use Rattle.wtf_meta.specs.FileEdits.{file_of}
use Rattle.wtf_meta.specs.Maps.{Map, seen}
use Rattle.wtf_meta.specs.Sessions.{SessionView, handle_in}
use Rattle.wtf_meta.specs.Trees.{LeadsTo}
use Rattle.wtf_region.specs.declared.dev.Dev.{Dev}
use Rattle.wtf_region.specs.Cached.{Remembered}
use Rattle.wtf_region.specs.Devs.{between, place_in, remembered}
use Rattle.wtf_rw.specs.Stored.{end_place}
use Rattle.wtf_replay.specs.Causes.{FaultAt, IsCallFault, IsCommitFault, fault_answer}
use Rattle.wtf_replay.specs.Views.{TxnView, hand_of}
use Rattle.wtf_compact.specs.Jobs.{job_target, region_in_map}
use Rattle.wtf_compact.specs.Planned.{IsPlanFault}
use Rattle.wtf_gc.specs.Scans.{IsPrunedFrom, IsPieceFault}
use Rattle.wtf_gc.specs.Views.{is_garbage}
use Rattle.wtf_clients.specs.Views.{TablesView, of_client, metadata_now}
use Rattle.wtf_clients.specs.Dumped.{LacksDump}
use Rattle.wtf_clients.specs.Outcomes.{Load, Data, RegionList, Frees, load_of, AddsOneList}

-- What a line is lent beside the stores: the settings, and the lists that were remembered before it; and those that it left.
pub record Lending : Type 0 where
  pub settings : Settings
  pub lists : Remembered
  pub left : Remembered

abbrev pub lending : Settings → Remembered → Remembered → Lending
lending settings lists left = record { settings = settings; lists = lists; left = left }

-- what devices lend, and what is left of them
abbrev pub lent_by : {S : Type 0} → Dev S → Dev S → Lending
lent_by old new = lending old.settings (remembered old) (remembered new)

-- Devices that a line was lent and left: the stores and the servers that are down are those of its span, the settings and the lists that were
-- remembered before it and after it are these, and the ring is that of the servers.
pub record IsLent {S : Type 0} (t : Span S) (lent : Lending) (old new : Dev S) : Type 0 where
  pub span_is : between old new ≡ t
  pub settings_are : old.settings ≡ lent.settings
  pub lists_are : remembered old ≡ lent.lists
  pub left_are : remembered new ≡ lent.left
  pub ring_is : IsRing lent.settings.servers old.ring.now.points

-- Where the bytes of a call go, by the map and the handles of its transaction: those that are written to the region of the
-- handle's offset, and those that are appended to that of the file's end.
abbrev pub IsCallPlace : {S : Type 0} → Dev S → Map → SessionView → Op (List ℕ) → PlaceView → Type 0
IsCallPlace dev w s (op.Write f bytes) place = (h : Handle) × (handle_in s f ≡ Some h) × (place ≡ place_in dev h.inode h.off)
IsCallPlace dev w s (op.Append f bytes) place =
    (h : Handle) × (handle_in s f ≡ Some h) × (place ≡ place_in dev h.inode (end_place dev.settings.region (file_of h.inode w)))
IsCallPlace dev w s o place = ⊥

-- the open transaction of a client is as P says
abbrev pub OfClient : TablesView → ℕ → (TxnView → Type 0) → Type 0
OfClient tables c P = (x : TxnView) × (of_client tables.clients c ≡ Some x) × P x

-- the same of a line: the list of a region that a spill stores goes where the region's first byte does
abbrev pub IsLinePlace : {S : Type 0} → Dev S → TablesView → Event → PlaceView → Type 0
IsLinePlace dev tables (event.Client c (verb.Call o)) place = OfClient tables c (λ x. IsCallPlace dev (seen tables.kv x.at) x.session o place)
IsLinePlace dev tables (event.Plan j Spill p r) place =
    (i : InodeId) × LeadsTo (metadata_now tables.kv) p i × (place ≡ place_in dev i (r * dev.settings.region))
IsLinePlace dev tables e place = ⊥

-- a region that is to be planned has no byte, so that nothing of it is to be stored
abbrev pub IsLineEmpty : TablesView → Event → Type 0
IsLineEmpty tables (event.Plan j kind p r) = (i : InodeId) × LeadsTo (metadata_now tables.kv) p i × (end_of (region_in_map (metadata_now tables.kv) i r) ≡ 0)
IsLineEmpty tables e = ⊥

-- the list of a region of the file at a path was not read, or the one that is to take its place was not stored
pub record LacksPlan {S : Type 0} (kind : StoreKind S) (old new : Dev S) (w : Map) (jk : JobKind) (p : List ℕ) (r : ℕ) (why : Fault) : Type 0 where
  pub inode : InodeId
  pub leads : LeadsTo w p inode
  pub cause : IsPlanFault kind old new (job_target inode r jk) (region_in_map w inode r) why

-- a list that the next parts of a scan have to read was not read, a base of a version that is kept
pub record LacksPart {S : Type 0} (kind : StoreKind S) (old new : Dev S) (tables : TablesView) (k : ℕ) (why : Fault) : Type 0 where
  pub kept : Store Key Value
  pub pruned : IsPrunedFrom tables.kv kept
  pub cause : IsPieceFault kind old new kept tables.beside.gc.running k why

-- a server has garbage, and it is out
pub record LacksPunch {S : Type 0} (kind : StoreKind S) (old new : Dev S) (tables : TablesView) (k : ℕ) (why : Fault) : Type 0 where
  pub place : Place
  pub server : place.server ≡ k
  pub garbage : is_garbage tables.beside.gc place ≡ true
  pub cause : IsPunchFault kind (between old new) k why

-- Why a line fails: a call for want of servers, of a byte that it is to show, or of a list of a file that it reads or takes; a step
-- for want of one for the call which it replays; a commit for want of one for those that it replays, with what is then in hand; a
-- dump for want of a byte or a list of the file; a plan for want of the region's list, and a spill for want of servers; a piece for want of
-- a list of its parts; and a collection for want of its server.
abbrev pub IsLineFault : {S : Type 0} → StoreKind S → (old new : Dev S) → TablesView → Event → Fault → Type 0
IsLineFault kind old new tables (event.Client c (verb.Call o)) why = OfClient tables c (λ x. IsCallFault kind old new (seen tables.kv x.at) x.session o why)
IsLineFault kind old new tables (event.Client c verb.Step) why =
    OfClient tables c (λ x. FaultAt kind old new tables.kv (hand_of x) (slice_get x.log.ops x.replayed) why)
IsLineFault kind old new tables (event.Client c verb.Commit) why = OfClient tables c (λ x. IsCommitFault kind old new tables.kv x why)
IsLineFault kind old new tables (event.Dump p) why = LacksDump kind old new (metadata_now tables.kv) p why
IsLineFault kind old new tables (event.Plan j jk p r) why = LacksPlan kind old new (metadata_now tables.kv) jk p r why
IsLineFault kind old new tables (event.Piece k) why = LacksPart kind old new tables k why
IsLineFault kind old new tables (event.Collect k) why = LacksPunch kind old new tables k why
IsLineFault kind old new tables e why = ⊥

-- what a line is to store, where that is to go, that there is nothing of it, and why it may fail
pub record Asked : Type 1 where
  pub given : Load
  pub goes_to : PlaceView → Type 0
  pub empty : Type 0
  pub fails : Fault → Type 0

abbrev pub line_asked : {S : Type 0} → StoreKind S → Span S → Lending → TablesView → Event → Asked
line_asked {S} kind t lent tables e = record {
  given = load_of e;
  goes_to = λ place. (old : Dev S) × (new : Dev S) × IsLent t lent old new × IsLinePlace old tables e place;
  empty = IsLineEmpty tables e;
  fails = λ why. (old : Dev S) × (new : Dev S) × IsLent t lent old new × IsLineFault kind old new tables e why;
}

-- bytes that were handed in and answered `ok` were stored where they go; and so was the list of a region that a spill planned, but if there
-- is nothing of it, where nothing was stored
abbrev pub IsPlacedBy : {S : Type 0} → StoreKind S → Span S → Settings → Asked → Load → Answer → Type 0
IsPlacedBy kind t settings asked (Data bytes) a = a ≡ answer.Okay → 0 < length bytes
    → (place : PlaceView) × asked.goes_to place × (slice : Slice) × IsStored kind t settings.replicas place bytes slice
IsPlacedBy kind t settings asked RegionList a = a ≡ answer.Planned
    → (asked.empty × SameLengths kind t.before t.after) ⊎ ((asked.empty → ⊥) × AddsOneList kind t settings asked.goes_to)
IsPlacedBy kind t settings asked (Frees k) a = ⊤

abbrev pub IsPlaced : {S : Type 0} → StoreKind S → Span S → Settings → Asked → Answer → Type 0
IsPlaced kind t settings asked a = IsPlacedBy kind t settings asked asked.given a

-- the answer is that of such a fault
abbrev pub IsBecause : (Fault → Type 0) → Answer → Type 0
IsBecause fails a = (why : Fault) × (fault_answer why ≡ Some a) × fails why

-- a fault of the stores has such a cause; why a save fails is said by `HasCause`
abbrev pub HasFailed : (Fault → Type 0) → Answer → Type 0
HasFailed fails (answer.FaultRead k) = IsBecause fails (answer.FaultRead k)
HasFailed fails answer.FaultWrite = IsBecause fails answer.FaultWrite
HasFailed fails (answer.FaultPunch k) = IsBecause fails (answer.FaultPunch k)
HasFailed fails (answer.Damaged k) = IsBecause fails (answer.Damaged k)
HasFailed fails a = ⊤
