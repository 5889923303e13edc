-- The two parts of an event: what the core does of it with the journal as the keeper of its images, and what is added to the journal then.
use Rattle.std.specs.Prelude.{◌≡◌, ◌⊎◌, ◌≤◌, ◌+◌, ℕ, true, false, List, [], ◌++◌, Option, Some, MatchOption, ⊤}
use Rattle.std.specs.List.{Contains}
use Rattle.wtf_dev.specs.Disk.{DiskGoesOn, DiskKind, DiskLeaves, SameElsewhere}
use Rattle.wtf_dev.specs.Each.{EachFollows}
use Rattle.wtf_changes.specs.Counted.{CanBeCounted}
use Rattle.wtf_changes.specs.Since.{IsChangesOf}
use Rattle.wtf_imagefmt.specs.Shown.{shown}
use Rattle.wtf_imagefmt.specs.Saving.{IsSaveOf}
use Rattle.wtf_journal.specs.Follows.{synced_kind}
use Rattle.wtf_journal.specs.Keeper.{StandsAt}
use Rattle.wtf_journal.specs.Meant.{MeansOneOf}
use Rattle.wtf_journal.specs.Records.{HasBodies, RestsAt}
use Rattle.wtf_model.specs.declared.answer.Answer.{Answer}
use Rattle.wtf_model.specs.declared.event.Event.{Event}
use Rattle.wtf_clients.specs.Leaving.{LeavesAlone}
use Rattle.wtf_core.specs.Promises.{CoreGoesOn, Obeys, Stores, IsCaused, GoesOnTold, HasPunched, CoreKeeps, span_of}
use Rattle.wtf_core.specs.Turns.{IsLine}
use Rattle.wtf_core.specs.Views.{CoreView, lent_of}
use Rattle.wtf_durable.specs.Promises.{IsImageBody, Records, SavesStores, changes_body}
use Rattle.wtf_durable.specs.Views.{DurableScene, DurableView, ReachesGate, core_scene}

-- What a line handed to the journal: images of the core as it was. A stop at any moment leaves a journal that stands for what it could stand for
-- before, or for one of these.
pub record HandsImages {D : Type 0} (kind : DiskKind D) (before after : D) (end : ℕ) (core : CoreView) : Type 0 where
  pub images : List (List ℕ)
  pub each : (image : List ℕ) → Contains images image → IsSaveOf core.tables.kv core.settings core.tables.next_tx image
  pub goes_on : DiskGoesOn kind before after
  pub elsewhere : (kind.view before).tells ≡ true → SameElsewhere 0 (kind.view before) (kind.view after)
  pub moments : (kind.view before).tells ≡ true → StandsAt kind before end → DiskLeaves kind before after (MeansOneOf (kind.view before) images)

module _ {S D : Type 0} (stores : DiskKind S) (kind : DiskKind D) where
  -- The core answered, and the journal has the image where the line saved.
  pub record Handled (old mid : DurableScene S D) (e : Event) (a : Answer) : Type 0 where
    pub line : IsLine (synced_kind stores) (span_of (core_scene kind old) (core_scene kind mid)) old.durable.core mid.durable.core e a
    pub stays : CoreKeeps old.durable.core mid.durable.core
    pub goes_on : CoreGoesOn (synced_kind stores) (core_scene kind old) (core_scene kind mid) e a
    pub lawful : Obeys (synced_kind stores) (core_scene kind old) (core_scene kind mid) e a
    pub stored : Stores (synced_kind stores) (core_scene kind old) (core_scene kind mid) e a
    pub caused : IsCaused (synced_kind stores) (core_scene kind old) (core_scene kind mid) e a
    pub told : GoesOnTold (synced_kind stores) (core_scene kind old) (core_scene kind mid) e a
    pub punched : HasPunched (synced_kind stores) (core_scene kind old) (core_scene kind mid) e a
    pub leaves : LeavesAlone (synced_kind stores) (span_of (core_scene kind old) (core_scene kind mid)) (lent_of old.durable.core mid.durable.core)
        old.durable.core.tables e
    pub saves : SavesStores (synced_kind stores) (span_of (core_scene kind old) (core_scene kind mid)) old.durable.core.settings.servers e a
    pub hands : HandsImages kind old.disk mid.disk old.durable.journal.end old.durable.core
    pub whole : mid.durable.journal.failed ≡ false
    pub reach : ReachesGate kind mid.disk mid.durable
    pub saved : List (List ℕ)
    pub saved_is : IsImageBody old.durable.core e a saved
    pub added : (kind.view old.disk).tells ≡ true → (bodies : List (List ℕ)) → RestsAt kind old.disk old.durable.journal.end bodies
        → RestsAt kind mid.disk mid.durable.journal.end (bodies ++ saved)

  -- The event ends there: memory was wanted, or the image of a save was not added. Nothing was punched.
  pub record HandlesNot (old new : DurableScene S D) (e : Event) : Type 0 where
    pub number : new.durable.core.tables.kv.number ≤ old.durable.core.tables.kv.number + 1
    pub next_tx : new.durable.core.tables.next_tx ≤ old.durable.core.tables.next_tx + 1
    pub no_earlier : old.durable.core.tables.next_tx ≤ new.durable.core.tables.next_tx
    pub follows : EachFollows (synced_kind stores) old.shelf new.shelf []
    pub leaves : LeavesAlone (synced_kind stores) (span_of (core_scene kind old) (core_scene kind new)) (lent_of old.durable.core new.durable.core)
        old.durable.core.tables e
    pub hands : HandsImages kind old.disk new.disk old.durable.journal.end old.durable.core

-- the changes that are to be added: those since the number that was watched, where an image can count the paths and the files of the metadata
pub record AreChanges (core : CoreView) (bytes : List ℕ) : Type 0 where
  pub since : ℕ
  pub was : core.tables.beside.watched ≡ Some since
  pub changes : IsChangesOf core.tables.kv since core.tables.next_tx bytes
  pub counted : CanBeCounted (shown core.tables.kv)

-- What is added behind it: changes, if there are some. The numbers stay, and a stop at any moment leaves the records from before, or with these.
pub record Notes {D : Type 0} (kind : DiskKind D) (before after : D) (end : ℕ) (old new : CoreView) : Type 0 where
  pub number : new.tables.kv.number ≡ old.tables.kv.number
  pub next_tx : new.tables.next_tx ≡ old.tables.next_tx
  pub changes : Option (List ℕ)
  pub are : MatchOption changes ⊤ (AreChanges old)
  pub goes_on : DiskGoesOn kind before after
  pub elsewhere : (kind.view before).tells ≡ true → SameElsewhere 0 (kind.view before) (kind.view after)
  pub moments : (kind.view before).tells ≡ true → (bodies : List (List ℕ)) → RestsAt kind before end bodies
      → DiskLeaves kind before after (λ c. HasBodies bodies (c 0) ⊎ HasBodies (bodies ++ changes_body changes) (c 0))

-- They were added, if there were some, and the number is watched then.
pub record Noted {D : Type 0} (kind : DiskKind D) (before after : D) (old new : DurableView) : Type 0 where
  pub notes : Notes kind before after old.journal.end old.core new.core
  pub records : Records old.core new.core notes.changes
  pub added : (kind.view before).tells ≡ true → (bodies : List (List ℕ)) → RestsAt kind before old.journal.end bodies
      → RestsAt kind after new.journal.end (bodies ++ changes_body notes.changes)
  pub whole : new.journal.failed ≡ false
  pub reach : ReachesGate kind after new
