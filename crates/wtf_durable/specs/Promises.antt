-- What a durable store promises of an event.
use Rattle.std.specs.Prelude.{◌≡◌, ◌⊎◌, ◌<◌, ◌≤◌, ◌+◌, ℕ, true, List, [], ◌∷◌, ◌++◌, Option, None, Some, Result, Ok, Err}
use Rattle.wtf_dev.specs.Disk.{DiskKind}
use Rattle.wtf_dev.specs.Store.{StoreKind}
use Rattle.wtf_journal.specs.Follows.{synced_kind}
use Rattle.wtf_journal.specs.Records.{RestsAt}
use Rattle.wtf_imagefmt.specs.Saving.{IsSaveOf}
use Rattle.wtf_replica.specs.Outs.{HasSynced, IsLeftDown, SameFrom}
use Rattle.wtf_replica.specs.Spans.{Span}
use Rattle.wtf_region.specs.Cached.{Remembered}
use Rattle.wtf_clients.specs.Asked.{lending, line_asked}
use Rattle.wtf_clients.specs.Leaving.{GrowsOnly, LeavesAlone, SyncsNone}
use Rattle.wtf_clients.specs.Outcomes.{SomeOut}
use Rattle.wtf_model.specs.declared.answer.Answer.{Answer}
use Rattle.wtf_model.specs.declared.answer.Answer.TheVariants as answer
use Rattle.wtf_model.specs.declared.event.Event.{Event}
use Rattle.wtf_model.specs.declared.event.Event.TheVariants as event
use Rattle.wtf_model.specs.Machines.{Machine}
use Rattle.wtf_model.specs.Steps.{May, after}
use Rattle.wtf_core.specs.Promises.{CoreGoesOn, Obeys, Stores, IsCaused, GoesOnTold, HasPunched, CoreHasRoom, IsRecordOf, span_of}
use Rattle.wtf_core.specs.Standing.{IsSmall}
use Rattle.wtf_core.specs.Turns.{IsLine}
use Rattle.wtf_core.specs.Views.{CoreView, lent_of}
use Rattle.wtf_durable.specs.Journaled.{StandsDurably}
use Rattle.wtf_durable.specs.Sound.{IsSoundDurable}
use Rattle.wtf_durable.specs.Stops.{Leftover, LeavesStore, StopIn, StopNow}
use Rattle.wtf_durable.specs.Views.{DurableScene, ReachesGate, core_scene}

-- What the core tells of installs behind a line, and what it is then: nothing, where none came since, and it stays; or the changes since, and
-- the number of installs is watched from then on.
abbrev pub Records : (mid new : CoreView) → Option (List ℕ) → Type 0
Records mid new None = (mid.tables.beside.watched ≡ Some mid.tables.kv.number) × (new ≡ mid)
Records mid new (Some changes) = IsRecordOf mid new changes

-- the record of changes, if there are some
abbrev pub changes_body : Option (List ℕ) → List (List ℕ)
changes_body None = []
changes_body (Some changes) = (1 ∷ changes) ∷ []

-- the image of the core is recorded exactly where the line saved
abbrev pub IsImageBody : CoreView → Event → Answer → List (List ℕ) → Type 0
IsImageBody old event.Save (answer.Saved n) bodies =
    (image : List ℕ) × IsSaveOf old.tables.kv old.settings old.tables.next_tx image × (bodies ≡ (0 ∷ image) ∷ [])
IsImageBody old e a bodies = bodies ≡ []

-- A line that is answered: the core answers it, and then tells what was installed. The journal has the records from before it, then an image
-- exactly where the line saved, and then changes exactly where an install came.
pub record DurableLine {S D : Type 0} (stores : DiskKind S) (kind : DiskKind D) (old new : DurableScene S D) (e : Event) (a : Answer) : Type 0 where
  pub answered : CoreView
  pub line : IsLine (synced_kind stores) (span_of (core_scene kind old) (core_scene kind new)) old.durable.core answered e a
  pub changes : Option (List ℕ)
  pub told : Records answered new.durable.core changes
  pub saved : List (List ℕ)
  pub saved_is : IsImageBody old.durable.core e a saved
  pub added : (kind.view old.disk).tells ≡ true → (bodies : List (List ℕ)) → RestsAt kind old.disk old.durable.journal.end bodies
      → RestsAt kind new.disk new.durable.journal.end (bodies ++ saved ++ changes_body changes)

-- what stays of a durable store behind an event that it answers
pub record DurableStays {S D : Type 0} (stores : DiskKind S) (kind : DiskKind D) (old new : DurableScene S D) : Type 0 where
  pub sound : IsSoundDurable (synced_kind stores) new.shelf new.durable
  pub settings : new.durable.core.settings ≡ old.durable.core.settings
  pub reach : ReachesGate kind new.disk new.durable
  pub number : new.durable.core.tables.kv.number ≤ old.durable.core.tables.kv.number + 1
  pub next_tx : new.durable.core.tables.next_tx ≤ old.durable.core.tables.next_tx + 1

-- A save that is answered brought the bytes of all servers to where they last; one that failed did so at a server that is out, and never at the journal.
pub record SavesStores {S : Type 0} (kind : StoreKind S) (t : Span S) (servers : ℕ) (e : Event) (a : Answer) : Type 0 where
  pub synced : (n : ℕ) → e ≡ event.Save → a ≡ answer.Saved n → (j : ℕ) → j < servers → HasSynced kind t.before t.after j
  pub out : a ≡ answer.FaultSave → SomeOut kind t servers

-- What an event leaves alone of the stores that is not answered: each store of a server that is down, and each that the settings do not have; all
-- syncs, but in a save; and each file, but the one to which its bytes were to go, which grows by them once.
pub record LeavesStores {S : Type 0} (kind : StoreKind S) (t : Span S) (old : CoreView) (e : Event) : Type 0 where
  pub down : IsLeftDown t
  pub past : SameFrom old.settings.servers t.before t.after
  pub syncs : SyncsNone kind t e
  pub lists : Remembered
  pub files : GrowsOnly kind t (line_asked kind t (lending old.settings old.lists lists) old.tables e)

-- What a durable store does of an event that it answers: what its core promises of it, over the stores and the count of faults of the journal's
-- disk.
pub record DurableDoes {S D : Type 0} (stores : DiskKind S) (kind : DiskKind D) (old new : DurableScene S D) (e : Event) (a : Answer) : Type 0 where
  pub line : DurableLine stores kind old new e a
  pub stays : DurableStays stores kind old new
  pub goes_on : CoreGoesOn (synced_kind stores) (core_scene kind old) (core_scene kind new) e a
  pub lawful : Obeys (synced_kind stores) (core_scene kind old) (core_scene kind new) e a
  pub stored : Stores (synced_kind stores) (core_scene kind old) (core_scene kind new) e a
  pub caused : IsCaused (synced_kind stores) (core_scene kind old) (core_scene kind new) e a
  pub told : GoesOnTold (synced_kind stores) (core_scene kind old) (core_scene kind new) e a
  pub punched : HasPunched (synced_kind stores) (core_scene kind old) (core_scene kind new) e a
  pub leaves : LeavesAlone (synced_kind stores) (span_of (core_scene kind old) (core_scene kind new)) (lent_of old.durable.core new.durable.core)
      old.durable.core.tables e
  pub saves : SavesStores (synced_kind stores) (span_of (core_scene kind old) (core_scene kind new)) old.durable.core.settings.servers e a

-- The machine behind an event with this result: with this answer, or, where it was not answered, with one that it may give.
abbrev pub MayBecome : {E : Type 0} → Machine → Event → Result Answer E → Machine → Type 0
MayBecome m e (Ok a) n = n ≡ after m e a
MayBecome m e (Err why) n = (a : Answer) × May m e a × (n ≡ after m e a)

-- A stop at any moment of an event on a small tree leaves a store to go on with, from the machine before it, or the one behind it.
pub record Survives {S D E : Type 0} (stores : DiskKind S) (kind : DiskKind D) (old new : DurableScene S D) (e : Event) (r : Result Answer E)
    : Type 0 where
  pub during : (m : Machine) → IsSmall m → StandsDurably stores kind old m → CoreHasRoom new.durable.core → (left : Leftover)
      → StopIn stores kind old new left → (n : Machine) × ((n ≡ m) ⊎ MayBecome m e r n) × LeavesStore left n new.durable.core.tables.next_tx
  -- and so does one behind it, before any other call
  pub behind : (m : Machine) → IsSmall m → StandsDurably stores kind old m → CoreHasRoom new.durable.core → (left : Leftover)
      → StopNow stores kind new left → (n : Machine) × ((n ≡ m) ⊎ MayBecome m e r n) × LeavesStore left n new.durable.core.tables.next_tx

-- Behind an event on a small tree that was answered the store stands for the machine with that answer, and a stop leaves that to go on with.
pub record Lasts {S D : Type 0} (stores : DiskKind S) (kind : DiskKind D) (old new : DurableScene S D) (e : Event) (a : Answer) : Type 0 where
  pub stands : (m : Machine) → IsSmall m → StandsDurably stores kind old m → CoreHasRoom new.durable.core → StandsDurably stores kind new (after m e a)
  pub leaves : (m : Machine) → IsSmall m → StandsDurably stores kind old m → CoreHasRoom new.durable.core → (left : Leftover)
      → StopNow stores kind new left → LeavesStore left (after m e a) new.durable.core.tables.next_tx
