-- What a core promises of a line, in parts of which none needs another.
use Rattle.std.specs.Prelude.{◌≡◌, ◌≢◌, ◌⊎◌, ◌<◌, ◌≤◌, ◌+◌, ◌^◌, ℕ, true, false, List, [], Some, ⊤}
use Rattle.wtf_base.specs.Places.{Place}
use Rattle.wtf_dev.specs.Counts.{Rose}
use Rattle.wtf_dev.specs.Each.{EachFollows}
use Rattle.wtf_dev.specs.Keep.{KeeperView}
use Rattle.wtf_dev.specs.Store.{StoreKind}
use Rattle.wtf_replica.specs.Bytes.{byte_at}
use Rattle.wtf_replica.specs.Downs.{is_down}
use Rattle.wtf_replica.specs.Inside.{size_in}
use Rattle.wtf_replica.specs.Outs.{SameSyncs}
use Rattle.wtf_replica.specs.Spans.{Span, span}
use Rattle.wtf_model.specs.declared.answer.Answer.{Answer}
use Rattle.wtf_model.specs.declared.answer.Answer.TheVariants as answer
use Rattle.wtf_model.specs.declared.event.Event.{Event}
use Rattle.wtf_model.specs.declared.event.Event.TheVariants as event
use Rattle.wtf_model.specs.Machines.{Machine}
use Rattle.wtf_model.specs.Servers.{down_after_event}
use Rattle.wtf_model.specs.Steps.{after}
use Rattle.wtf_gc.specs.Extents.{extents_cover}
use Rattle.wtf_image.specs.Tables.{shown}
use Rattle.wtf_changes.specs.Counted.{CanBeCounted}
use Rattle.wtf_changes.specs.Since.{IsChangesOf}
use Rattle.wtf_clients.specs.Asked.{line_asked, IsPlaced, HasFailed}
use Rattle.wtf_clients.specs.Keeping.{KeeperSpan, KeeperTurn, HoldsKept}
use Rattle.wtf_clients.specs.Leaving.{LeavesAlone}
use Rattle.wtf_clients.specs.Outcomes.{AddsBytes, IsUnspilled, SaveFault, HasCause, load_of}
use Rattle.wtf_clients.specs.Saves.{Saves}
use Rattle.wtf_clients.specs.ScanTurns.{IsPruned}
use Rattle.wtf_clients.specs.Sounds.{AreSound, IsAlike}
use Rattle.wtf_clients.specs.Views.{TablesView, watching}
use Rattle.wtf_core.specs.Answers.{IsEvent}
use Rattle.wtf_core.specs.Named.{IsInside, IsBased, IsBareCore, IsFull}
use Rattle.wtf_core.specs.Pictured.{HoldsTree, HoldsTaken, HoldsWith}
use Rattle.wtf_core.specs.Standing.{StandsFor, IsSmall}
use Rattle.wtf_core.specs.Remembering.{KeepsPunched}
use Rattle.wtf_core.specs.Quiet.{Saved, IsAtStage, HasCollected, ImageNames, IsIdle, WatchesNoOther}
use Rattle.wtf_core.specs.Telling.{TellsCore, ServesTelling}
use Rattle.wtf_core.specs.Turns.{IsLine}
use Rattle.wtf_core.specs.Views.{CoreView, lent_of}

-- the stores, what is seen of the keeper, and the core, at one time
pub record Scene (S : Type 0) : Type 0 where
  pub shelf : List S
  pub keeper : KeeperView
  pub core : CoreView

abbrev pub scene : {S : Type 0} → List S → KeeperView → CoreView → Scene S
scene shelf keeper core = record { shelf = shelf; keeper = keeper; core = core }

-- the stores over a line, with the servers that are down before it
abbrev pub span_of : {S : Type 0} → Scene S → Scene S → Span S
span_of old new = span (is_down old.core.replicas) old.shelf new.shelf

-- an image has room for the numbers
abbrev pub CoreHasRoom : CoreView → Type 0
CoreHasRoom core = (core.tables.kv.number ≤ 2 ^ 62) × (core.tables.next_tx ≤ 2 ^ 62)

-- The core goes on: it is open, and what it names lies inside the stores. Unless the line has spilled a list, no region has a base where none
-- had one before, and what is named has as many copies as there are replicas where it had before. Which servers are down follows the lines
-- `down` and `up`. No number falls, and a save leaves both.
pub record CoreGoesOn {S : Type 0} (kind : StoreKind S) (old new : Scene S) (e : Event) (a : Answer) : Type 0 where
  pub not_closed : new.core.closed ≡ false
  pub inside : IsInside kind new.shelf new.core
  pub bare : IsUnspilled (load_of e) a → IsBareCore old.core → IsBareCore new.core
  pub full : IsUnspilled (load_of e) a → IsFull old.core → IsFull new.core
  pub down : (k : ℕ) → is_down new.core.replicas k ≡ down_after_event (is_down old.core.replicas) e a k
  pub number : old.core.tables.kv.number ≤ new.core.tables.kv.number
  pub next_tx : old.core.tables.next_tx ≤ new.core.tables.next_tx
  pub same_number : e ≡ event.Save → new.core.tables.kv.number ≡ old.core.tables.kv.number
  pub same_next_tx : e ≡ event.Save → new.core.tables.next_tx ≡ old.core.tables.next_tx

-- what a save leaves on a keeper that tells: the image of the core, with its settings and its numbers
abbrev pub CoreLeaves : {S : Type 0} → StoreKind S → Scene S → Scene S → Event → Answer → Type 0
CoreLeaves kind old new event.Save (answer.Saved n) =
    HoldsWith new.keeper (size_in kind new.shelf) old.core.settings old.core.tables.kv.number old.core.tables.next_tx
CoreLeaves kind old new e a = ⊤

-- each byte of server k was freed, or is named by the image that the keeper holds, over the stores as they are left
abbrev pub LeavesNamed : {S : Type 0} → StoreKind S → Scene S → ℕ → Type 0
LeavesNamed kind new k =
    (bytes : List ℕ) → new.keeper.held ≡ Some bytes → (p : Place) → p.server ≡ k → p.file < 8 → p.at < size_in kind new.shelf k p.file
    → (extents_cover new.core.tables.beside.gc.freed p ≡ true) ⊎ ImageNames (byte_at kind new.shelf) bytes p

-- The machine may give that answer, and the core stands for its next. What a keeper holds that tells it goes on being the image
-- of a tree that the machine may have saved, where it is one at a number that is kept for it, as it goes on to be (`KeepsImage.held`), so that no
-- collection takes its bytes; and one that a run can begin with; after a save it is that of the core, with just
-- its numbers. A save of a machine of which nothing is open begins a quiet ending, where no other number is watched; and one behind a quiet ending
-- leaves an image that names each byte of the server that was not freed.
pub record IsCoreLawful {S : Type 0} (kind : StoreKind S) (old new : Scene S) (m : Machine) (e : Event) (a : Answer) : Type 0 where
  pub rests : IsIdle m → WatchesNoOther old.core.tables → (n : ℕ) → e ≡ event.Save → a ≡ answer.Saved n → IsAtStage kind new.shelf new.core Saved
  pub left : (k n : ℕ) → HasCollected kind old.shelf old.core k → e ≡ event.Save → a ≡ answer.Saved n → old.keeper.tells ≡ true → LeavesNamed kind new k
  pub event : IsEvent (byte_at kind new.shelf) new.core m e a
  pub trees : old.keeper.tells ≡ true → CoreHasRoom old.core → HoldsKept old.keeper old.core.settings old.core.tables
      → HoldsTree old.keeper (byte_at kind old.shelf) m.may_be_saved
      → HoldsTree new.keeper (byte_at kind new.shelf) (after m e a).may_be_saved
  pub taken : old.keeper.tells ≡ true → CoreHasRoom old.core
      → HoldsTaken old.keeper (size_in kind old.shelf) old.core.settings old.core.tables.kv.number old.core.tables.next_tx
      → HoldsTaken new.keeper (size_in kind new.shelf) old.core.settings new.core.tables.kv.number new.core.tables.next_tx
  pub saved : old.keeper.tells ≡ true → CoreHasRoom old.core → CoreLeaves kind old new e a

-- the same of each machine that the core stands for, whose tree is small, where the stores tell all that the core names
abbrev pub Obeys : {S : Type 0} → StoreKind S → Scene S → Scene S → Event → Answer → Type 0
Obeys kind old new e a =
    TellsCore kind old.shelf old.core → (m : Machine) → IsSmall m → StandsFor (byte_at kind old.shelf) old.core m → IsCoreLawful kind old new m e a

-- the stores grew by what the line writes, where that goes
pub record Stores {S : Type 0} (kind : StoreKind S) (old new : Scene S) (e : Event) (a : Answer) : Type 0 where
  pub adds : AddsBytes kind (span_of old new) old.core.settings (load_of e) a
  pub placed : IsPlaced kind (span_of old new) old.core.settings (line_asked kind (span_of old new) (lent_of old.core new.core) old.core.tables e) a

-- a fault has its cause in this very line
pub record IsCaused {S : Type 0} (kind : StoreKind S) (old new : Scene S) (e : Event) (a : Answer) : Type 0 where
  pub cause : HasCause kind (span_of old new) old.core.settings
      (SaveFault kind (span_of old new) old.core.settings (Rose old.keeper.faults new.keeper.faults) e) (IsBased old.core) (IsFull old.core) (load_of e) a
  pub failed : HasFailed (line_asked kind (span_of old new) (lent_of old.core new.core) old.core.tables e).fails a

-- what a line does over stores that tell all that the core names
abbrev pub GoesOnTold : {S : Type 0} → StoreKind S → Scene S → Scene S → Event → Answer → Type 0
GoesOnTold kind old new e a = ServesTelling kind (span_of old new) old.core new.core e a

-- what a line punched, and what it made of the lists that are remembered
abbrev pub HasPunched : {S : Type 0} → StoreKind S → Scene S → Scene S → Event → Answer → Type 0
HasPunched kind old new e a = KeepsPunched kind old.shelf new.shelf old.core new.core e a

-- A save alone hands the keeper something; what it tells that it holds goes on being the image at a number that is kept for it.
pub record KeepsImage {S : Type 0} (kind : StoreKind S) (k : KeeperSpan) (old new : Scene S) (e : Event) (a : Answer) : Type 0 where
  pub turn : KeeperTurn kind (span_of old new) k old.core.settings old.core.tables new.core.tables e a
  pub held : k.before.tells ≡ true → HoldsKept k.before old.core.settings old.core.tables
      → HoldsKept k.after old.core.settings new.core.tables

-- whatever comes of the line: the settings are the same, the tables sound, no number rises by more than one, and what is watched stays
pub record CoreKeeps (old new : CoreView) : Type 0 where
  pub settings : new.settings ≡ old.settings
  pub sound : AreSound new.tables
  pub number : new.tables.kv.number ≤ old.tables.kv.number + 1
  pub next_tx : new.tables.next_tx ≤ old.tables.next_tx + 1
  pub watched : new.tables.beside.watched ≡ old.tables.beside.watched

-- What want of memory leaves of the tables: all as it was. Parts of a scan may have dropped versions before that no one sees.
abbrev pub IsLeftBy : Event → (old new : TablesView) → Type 0
IsLeftBy (event.Piece n) old new = IsPruned old new
IsLeftBy e old new = IsAlike old new

-- after want of memory the metadata are as they were, and the core is closed
pub record Closes (old new : CoreView) (e : Event) : Type 0 where
  pub closed : new.closed ≡ true
  pub left : IsLeftBy e old.tables new.tables

-- the number is watched from now on, in place of the one before; all else that is seen of the core stays
pub record Watches (old new : CoreView) : Type 0 where
  pub tables : Saves old.tables new.tables (watching old.tables.beside old.tables.kv.number)
  pub rest : new ≡ record old { tables = new.tables }

-- what installs changed since the number that was watched is told, where an image can count the paths and the files of the metadata; and the
-- number of installs is watched in its place
pub record IsRecordOf (old new : CoreView) (bytes : List ℕ) : Type 0 where
  pub since : ℕ
  pub was : old.tables.beside.watched ≡ Some since
  pub later : since ≢ old.tables.kv.number
  pub changes : IsChangesOf old.tables.kv since old.tables.next_tx bytes
  pub counted : CanBeCounted (shown old.tables.kv)
  pub watches : Watches old new

-- What a core does of a line that it answers.
pub record CoreDoes {S : Type 0} (kind : StoreKind S) (k : KeeperSpan) (old new : Scene S) (e : Event) (a : Answer) : Type 0 where
  pub goes_on : CoreGoesOn kind old new e a
  pub turn : IsLine kind (span_of old new) old.core new.core e a
  pub lawful : Obeys kind old new e a
  pub stored : Stores kind old new e a
  pub caused : IsCaused kind old new e a
  pub kept : KeepsImage kind k old new e a
  pub told : GoesOnTold kind old new e a
  pub punched : HasPunched kind old new e a

-- What it leaves of one that wants memory: the metadata are as they were, and the core is closed; nothing was punched, no store was synced, also
-- by a save, and the keeper is as it was.
pub record CoreFails {S : Type 0} (kind : StoreKind S) (k : KeeperSpan) (old new : Scene S) (e : Event) : Type 0 where
  pub closes : Closes old.core new.core e
  pub follows : EachFollows kind old.shelf new.shelf []
  pub unsynced : SameSyncs kind old.shelf new.shelf
  pub untouched : k.untouched

-- Whatever comes of a line: what stays of the core; no store of a server that is down was touched, and none that the settings do not have; only a save
-- synced, no file of a store grew but the one to which bytes of the line were to go, by them and once, and a line that reads no list leaves those that
-- are remembered.
pub record CoreStays {S : Type 0} (kind : StoreKind S) (old new : Scene S) (e : Event) : Type 0 where
  pub core : CoreKeeps old.core new.core
  pub leaves : LeavesAlone kind (span_of old new) (lent_of old.core new.core) old.core.tables e
