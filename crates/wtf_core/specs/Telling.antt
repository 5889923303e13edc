-- What a core is over stores that tell their content.
use Rattle.std.specs.Prelude.{◌≡◌, ◌≢◌, ◌<◌, ℕ, Bool, true, List, take, Some, ⊤}
use Rattle.std.specs.List.{Contains}
use Rattle.wtf_base.specs.declared.settings.Settings.{Settings}
use Rattle.wtf_dev.specs.Store.{StoreKind}
use Rattle.wtf_overlay.specs.Origin.{Place}
use Rattle.wtf_replica.specs.Bytes.{byte_at}
use Rattle.wtf_replica.specs.Inside.{size_in}
use Rattle.wtf_replica.specs.Spans.{Span}
use Rattle.wtf_model.specs.declared.answer.Answer.{Answer}
use Rattle.wtf_model.specs.declared.answer.Answer.TheVariants as answer
use Rattle.wtf_model.specs.declared.event.Event.{Event}
use Rattle.wtf_model.specs.declared.event.Event.TheVariants as event
use Rattle.wtf_model.specs.Machines.{Machine}
use Rattle.wtf_model.specs.Tree.{Tree}
use Rattle.wtf_meta.specs.Maps.{metadata_at}
use Rattle.wtf_meta.specs.Trees.{Stands}
use Rattle.wtf_gc.specs.Views.{is_garbage}
use Rattle.wtf_clients.specs.Outcomes.{IsUnread}
use Rattle.wtf_clients.specs.Safe.{IsSafe, NamesNone}
use Rattle.wtf_clients.specs.Telling.{TellsTables, AreWide, AreWithin, ServesTold, ReadsTold}
use Rattle.wtf_core.specs.Standing.{StandsFor}
use Rattle.wtf_core.specs.Quiet.{Stage, ScannedTwice, next_stage, IsIdleAt, IsAtStage, FoundOnlyKept, LeavesKept, HasCollected}
use Rattle.wtf_core.specs.Views.{CoreView}

-- The stores tell their content; each list that a core remembers of a slice of which nothing was punched is what the bytes of its slice decode
-- to; they tell each byte that the core names, also those that the lists of bases name; and collection is safe.
pub record TellsCore {S : Type 0} (kind : StoreKind S) (shelf : List S) (core : CoreView) : Type 0 where
  pub tables : TellsTables kind shelf core.settings core.lists core.tables
  pub safe : IsSafe core.settings.region (byte_at kind shelf) core.tables

-- each of these bytes has as many copies as there are replicas
abbrev pub IsWide : {S : Type 0} → StoreKind S → List S → CoreView → Type 0
IsWide kind shelf core = AreWide core.settings (byte_at kind shelf) core.tables

-- each of them lies inside the stores, on servers of the settings
abbrev pub IsWithin : {S : Type 0} → StoreKind S → List S → CoreView → Type 0
IsWithin kind shelf core = AreWithin kind shelf core.settings core.tables

-- the stores of the servers that settings have; a shelf may have more
abbrev pub stores_of : {S : Type 0} → Settings → List S → List S
stores_of settings shelf = take settings.servers shelf

-- No garbage is named: by no map that can be read, no image that may be on the keeper, no open transaction and no job, nor by the lists of
-- bases of these.
abbrev pub NamesNoGarbage : {S : Type 0} → StoreKind S → List S → CoreView → Type 0
NamesNoGarbage kind shelf core = NamesNone core.settings.region (byte_at kind shelf) (is_garbage core.tables.beside.gc) core.tables

-- The tree of each image that may be on the keeper stays what it was.
abbrev pub KeepsImages : {S : Type 0} → StoreKind S → Span S → (old new : CoreView) → Type 0
KeepsImages kind t old new =
    (n : ℕ) → Contains old.tables.beside.images n → Contains new.tables.beside.images n → (tx : ℕ) (tree : Tree)
    → Stands old.settings.region (byte_at kind t.before) tx 0 (metadata_at old.tables.kv n) tree
    → Stands old.settings.region (byte_at kind t.after) tx 0 (metadata_at new.tables.kv n) tree

-- A quiet ending goes on, also one that no save began. Where the last two scans found nothing that no version that is kept names, a collection
-- leaves just what is named; so it is behind two scans of a quiet ending. Of a server that was collected no more is left while the ending goes on.
pub record GoesOnQuietly {S : Type 0} (kind : StoreKind S) (t : Span S) (old new : CoreView) (e : Event) (a : Answer) : Type 0 where
  pub on : (s next : Stage) → next_stage s e a ≡ Some next → IsAtStage kind t.before old s → IsAtStage kind t.after new next
  pub idle : (s next : Stage) → next_stage s e a ≡ Some next → IsIdleAt kind t.before old s → IsIdleAt kind t.after new next
  pub kept : (k n : ℕ) → e ≡ event.Collect k → a ≡ answer.Collected n → FoundOnlyKept kind t.before old → LeavesKept kind t.after new k
  pub collected : (k n : ℕ) → e ≡ event.Collect k → a ≡ answer.Collected n → IsAtStage kind t.before old ScannedTwice → HasCollected kind t.after new k
  pub stays : (k : ℕ) (s next : Stage) → next_stage s e a ≡ Some next → HasCollected kind t.before old k → HasCollected kind t.after new k

-- A line over stores that told all that the core named, which stood for a machine: they tell all that it names then. No garbage is named, and what
-- lay in the files while nothing named it nothing names again. Each byte that is named has as many copies as there are replicas where each had,
-- and lies inside the stores where each did; no list was then read that is none, and a byte that was not read had as many copies where each has.
pub record IsToldLine {S : Type 0} (kind : StoreKind S) (t : Span S) (old new : CoreView) (e : Event) (a : Answer) : Type 0 where
  pub next : TellsCore kind t.after new
  pub unnamed : NamesNoGarbage kind t.after new
  pub never : (X : Place → Bool) → ((p : Place) → X p ≡ true → p.at < size_in kind t.before p.server p.file)
      → NamesNone old.settings.region (byte_at kind t.before) X old.tables → NamesNone old.settings.region (byte_at kind t.after) X new.tables
  pub images : KeepsImages kind t old new
  pub wide : IsWide kind t.before old → IsWide kind t.after new
  pub within : IsWithin kind t.before old → IsWithin kind t.after new
  pub undamaged : IsWithin kind t.before old → (k : ℕ) → a ≢ answer.Damaged k
  pub unread : IsWide kind t.before old → (k : ℕ) → a ≡ answer.FaultRead k → IsUnread kind t old.settings ⊤ k
  pub quiet : GoesOnQuietly kind t old new e a

abbrev pub ServesTelling : {S : Type 0} → StoreKind S → Span S → CoreView → CoreView → Event → Answer → Type 0
ServesTelling kind t old new e a =
    TellsCore kind t.before old → (m : Machine) → StandsFor (byte_at kind t.before) old m → IsToldLine kind t old new e a

-- Parts of a scan over such stores: they tell all that the tables name then, and collection stays safe.
pub record ToldPiece {S : Type 0} (kind : StoreKind S) (t : Span S) (old new : CoreView) (a : Answer) : Type 0 where
  pub reads : ReadsTold kind t old.settings old.tables a
  pub next : TellsTables kind t.after old.settings new.lists new.tables
  pub safe : IsSafe old.settings.region (byte_at kind t.before) old.tables → IsSafe old.settings.region (byte_at kind t.after) new.tables

-- What the tables' line does over such stores. Nothing more is asked of a scan that begins, of a collection, and of lines that leave the tables.
abbrev pub ServesTurn : {S : Type 0} → StoreKind S → Span S → CoreView → CoreView → Event → Answer → Type 0
ServesTurn kind t old new event.Scan a = ⊤
ServesTurn kind t old new (event.Piece n) a = TellsTables kind t.before old.settings old.lists old.tables → ToldPiece kind t old new a
ServesTurn kind t old new (event.Collect k) a = ⊤
ServesTurn kind t old new (event.Down k) a = ⊤
ServesTurn kind t old new (event.Up k) a = ⊤
ServesTurn kind t old new event.Tree a = ⊤
ServesTurn kind t old new e a =
    TellsTables kind t.before old.settings old.lists old.tables → ServesTold kind t old.settings (old.tables, new.tables) a
