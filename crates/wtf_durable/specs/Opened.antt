-- What opening a durable store gives, why it is refused, and what a stop in it leaves.
use Rattle.std.specs.Prelude.{◌≡◌, ◌≢◌, ◌⊎◌, ℕ, true, List, [], ◌∷◌, None, Some, ⊤}
use Rattle.wtf_base.specs.declared.settings.Settings.{Settings}
use Rattle.wtf_dev.specs.Counts.{Rose}
use Rattle.wtf_dev.specs.Disk.{DiskKind, IsFileImage}
use Rattle.wtf_dev.specs.Sums.{TellsAll}
use Rattle.wtf_imagefmt.specs.Images.{HasText}
use Rattle.wtf_imagefmt.specs.Rows.{ImageRows}
use Rattle.wtf_imagefmt.specs.Saving.{header_of}
use Rattle.wtf_image.specs.declared.error.LoadError.TheVariants as error
use Rattle.wtf_journal.specs.declared.fault.JournalFault.TheVariants as fault
use Rattle.wtf_journal.specs.Follows.{SyncedState, synced_kind}
use Rattle.wtf_journal.specs.Held.{Held, IsJournalOpened, IsTextOf, held_by}
use Rattle.wtf_journal.specs.Records.{RestsAt}
use Rattle.wtf_journal.specs.Scan.{IsBadAt, JournalGives, SameMeaning}
use Rattle.wtf_replica.specs.Bytes.{byte_at}
use Rattle.wtf_replica.specs.Outs.{HasRisen}
use Rattle.wtf_meta.specs.Contents.{Told}
use Rattle.wtf_model.specs.Tree.{Tree, root_alone}
use Rattle.wtf_serve.specs.Beginnings.{IsOpenedBy, IsUnopenedBy}
use Rattle.wtf_serve.specs.declared.opening.NotOpened.{NotOpened}
use Rattle.wtf_serve.specs.declared.opening.NotOpened.TheVariants as cannot
use Rattle.wtf_serve.specs.Openings.{StartsFrom, first}
use Rattle.wtf_durable.specs.declared.fault.Unopened.{Unopened}
use Rattle.wtf_durable.specs.declared.fault.Unopened.TheVariants as unopened
use Rattle.wtf_durable.specs.Journaled.{StandsDurably}
use Rattle.wtf_durable.specs.Sound.{durable_engine}
use Rattle.wtf_durable.specs.Stops.{FindsTree, LeavesTree, Leftover}
use Rattle.wtf_durable.specs.Views.{DurableScene, ReachesGate}

-- the journal's bytes give this image; no byte where they have no record
pub record GivesImage (journal image : List ℕ) : Type 0 where
  pub held : Held
  pub gives : JournalGives held_by None journal held
  pub text : IsTextOf held image

-- the image that the journal of a disk gave, where the disk tells its content
abbrev pub IsGivenBy : {D : Type 0} → DiskKind D → D → List ℕ → Type 0
IsGivenBy kind disk image = (kind.view disk).tells ≡ true → GivesImage ((kind.view disk).file 0).seen image

-- the journal has one record, the image of the root alone with these settings, before the first transaction
pub record HasFirstImage {D : Type 0} (kind : DiskKind D) (disk : D) (end : ℕ) (settings : Settings) (told : Told) : Type 0 where
  pub image : List ℕ
  pub rows : ImageRows
  pub text : HasText rows image
  pub header : rows.header ≡ header_of settings 0 1
  pub root : StartsFrom told image root_alone
  pub rests : RestsAt kind disk end ((0 ∷ image) ∷ [])

-- The records that an opening leaves, by the image that the journal gave before: those that it had, and behind changes one of that image; or that
-- of the root alone, with the settings that were asked for.
abbrev pub LeavesRecords : {D : Type 0} → DiskKind D → Settings → Told → (before after : D) → ℕ → List ℕ → Type 0
LeavesRecords kind asked told before after end [] = HasFirstImage kind after end asked told
LeavesRecords kind asked told before after end (b ∷ image) = IsJournalOpened kind before after end (b ∷ image)

-- A journal that was opened, where these settings were asked for: the store begins with the image that the journal gave, or with these settings
-- where it had no record. Then the image of the root alone is its first record.
pub record OpensDurable {S D : Type 0} (stores : DiskKind S) (kind : DiskKind D) (asked : Settings) (before : D) (new : DurableScene S D) : Type 0 where
  pub image : List ℕ
  pub given : IsGivenBy kind before image
  pub opened : IsOpenedBy (durable_engine stores) asked image new.shelf new.durable
  pub reach : ReachesGate kind new.disk new.durable
  pub records : (kind.view before).tells ≡ true
      → LeavesRecords kind asked (byte_at (synced_kind stores) new.shelf) before new.disk new.durable.journal.end image
  pub stands : TellsAll (synced_kind stores) new.shelf → (kind.view before).tells ≡ true → (t : Tree)
      → StartsFrom (byte_at (synced_kind stores) new.shelf) image t → StandsDurably stores kind new (first opened.opening t)

-- The first save of a journal with no record failed: a store did, or the journal's disk.
pub record FailsToSave {S D : Type 0} (stores : DiskKind S) (kind : DiskKind D) (shelf shelf' : List (SyncedState S)) (disk disk' : D) : Type 0 where
  pub empty : IsGivenBy kind disk []
  pub cause : ((k : ℕ) × HasRisen (synced_kind stores) shelf shelf' k) ⊎ Rose (kind.view disk).faults (kind.view disk').faults

module _ {S D : Type 0} (stores : DiskKind S) (kind : DiskKind D) (asked : Settings) where
  -- The journal was read, and its image opens no store: the stores are as they were, and the journal is as reading leaves it.
  pub record RefusesImage (shelf shelf' : List (SyncedState S)) (disk disk' : D) (why : NotOpened) : Type 0 where
    pub image : List ℕ
    pub end : ℕ
    pub journal : (kind.view disk).tells ≡ true → IsJournalOpened kind disk disk' end image
    pub refused : IsUnopenedBy (synced_kind stores) asked image shelf why
    pub stores_are : shelf' ≡ shelf

  -- Why a journal is not opened. It could not be read; or it is no journal, exactly where a record of it is not in the format; its image is refused
  -- over the stores as they were found, or asks for more servers than there are: then the stores are as they were. Or the first save of a journal with
  -- no record failed. Memory may be wanted at any time.
  abbrev pub UnopenedFor : (shelf shelf' : List (SyncedState S)) (disk disk' : D) → Unopened → Type 0
  UnopenedFor shelf shelf' disk disk' (unopened.Journal fault.Failed) = (shelf' ≡ shelf) × Rose (kind.view disk).faults (kind.view disk').faults
  UnopenedFor shelf shelf' disk disk' (unopened.Journal (fault.NotAJournal n)) =
      (shelf' ≡ shelf) × ((kind.view disk).tells ≡ true → IsBadAt held_by None ((kind.view disk).file 0).seen n)
  UnopenedFor shelf shelf' disk disk' (unopened.Journal fault.Memory) = shelf' ≡ shelf
  UnopenedFor shelf shelf' disk disk' (unopened.Image why) = (why ≢ error.Memory) × RefusesImage shelf shelf' disk disk' (cannot.Image why)
  UnopenedFor shelf shelf' disk disk' unopened.Small = RefusesImage shelf shelf' disk disk' cannot.Few
  UnopenedFor shelf shelf' disk disk' unopened.Save = FailsToSave stores kind shelf shelf' disk disk'
  UnopenedFor shelf shelf' disk disk' unopened.Memory = ⊤

-- In the place of no record a journal has the image of a new store: with these settings, of no install and before the first transaction, and over
-- stores that tell this the root alone.
pub record IsNewlySaved (asked : Settings) (told : Told) (before journal : List ℕ) : Type 0 where
  pub none : JournalGives held_by None before None
  pub rows : ImageRows
  pub gives : JournalGives held_by None journal (Some rows)
  pub header : rows.header ≡ header_of asked 0 1
  pub tree : FindsTree told journal root_alone

-- Bytes of a journal stand for what others stand for, and for nothing else, or were newly saved. Where the others stand for nothing they are those.
abbrev pub KeepsMap : Settings → Told → (before journal : List ℕ) → Type 0
KeepsMap asked told before journal = SameMeaning held_by None before journal ⊎ IsNewlySaved asked told before journal

-- A stop at any moment of opening, each device at one of its own, leaves a journal that stands for what one before it could stand for, and for
-- nothing else, or that was newly saved with the settings that were asked for; over the stores as they are left that is the tree which it was over
-- what they told before.
pub record OpeningSurvives {S D : Type 0} (stores : DiskKind S) (kind : DiskKind D) (asked : Settings) (shelf : List (SyncedState S)) (disk : D)
    (left : Leftover) : Type 0 where
  pub before : List ℕ
  pub could : IsFileImage ((kind.view disk).file 0) before
  pub map : KeepsMap asked (byte_at (synced_kind stores) shelf) before (left.journal 0)
  pub tree : TellsAll (synced_kind stores) shelf → (t : Tree) → FindsTree (byte_at (synced_kind stores) shelf) before t → LeavesTree left t
