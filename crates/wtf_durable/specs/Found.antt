-- The parts of opening a durable store: what its journal opens, and the first save of one whose journal had no record.
use Rattle.std.specs.Prelude.{◌≡◌, ◌≢◌, ℕ, Bool, true, false, List, []}
use Rattle.std.specs.Bool.{MatchBool}
use Rattle.wtf_base.specs.declared.settings.Settings.{Settings}
use Rattle.wtf_dev.specs.Disk.{DiskKind}
use Rattle.wtf_image.specs.declared.error.LoadError.TheVariants as error
use Rattle.wtf_journal.specs.Follows.{SyncedState, synced_kind}
use Rattle.wtf_journal.specs.Held.{IsJournalOpened}
use Rattle.wtf_model.specs.declared.answer.Answer.TheVariants as answer
use Rattle.wtf_model.specs.declared.event.Event.TheVariants as event
use Rattle.wtf_serve.specs.Beginnings.{IsOpenedBy}
use Rattle.wtf_serve.specs.Cores.{engine}
use Rattle.wtf_serve.specs.declared.opening.NotOpened.{NotOpened}
use Rattle.wtf_serve.specs.declared.opening.NotOpened.TheVariants as cannot
use Rattle.wtf_durable.specs.declared.fault.Unopened.{Unopened}
use Rattle.wtf_durable.specs.declared.fault.Unopened.TheVariants as unopened
use Rattle.wtf_durable.specs.Handled.{Handled}
use Rattle.wtf_durable.specs.Views.{DurableScene, DurableView, ReachesGate}

-- why an image opens no store, as it is told
abbrev pub unopened_by : NotOpened → Unopened
unopened_by cannot.Few = unopened.Small
unopened_by (cannot.Image error.Memory) = unopened.Memory
unopened_by (cannot.Image why) = unopened.Image why

-- What the journal of a disk opens, which is `before` and `after` that: a core over the stores, of the image that it gives. There is none where
-- the journal is fresh.
pub record IsFoundBy {S D : Type 0} (stores : DiskKind S) (kind : DiskKind D) (asked : Settings) (shelf : List (SyncedState S)) (disk : D × D)
    (d : DurableView) (fresh : Bool) : Type 0 where
  pub image : List ℕ
  pub journal : (kind.view disk.0).tells ≡ true → IsJournalOpened kind disk.0 disk.1 d.journal.end image
  pub core : IsOpenedBy (engine (synced_kind stores)) asked image shelf d.core
  pub fresh_is : MatchBool fresh (image ≡ []) (image ≢ [])
  pub whole : d.journal.failed ≡ false
  pub reach : ReachesGate kind disk.1 d

-- a fresh store was saved, and any other is as it was
abbrev pub IsBegun : {S D : Type 0} → DiskKind S → DiskKind D → Bool → DurableScene S D → DurableScene S D → Type 0
IsBegun stores kind fresh old new = MatchBool fresh ((n : ℕ) × Handled stores kind old new event.Save (answer.Saved n)) (new ≡ old)
