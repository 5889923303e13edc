-- What the journal of a durable store stands for between two events.
use Rattle.std.specs.Prelude.{◌≡◌, ◌≤◌, ℕ, true, List, None, Some}
use Rattle.wtf_dev.specs.Disk.{DiskKind}
use Rattle.wtf_imagefmt.specs.Rows.{ImageRows}
use Rattle.wtf_imagefmt.specs.Shown.{shown}
use Rattle.wtf_image.specs.Rules.{AreGoodSettings, IsGoodTree}
use Rattle.wtf_changes.specs.Law.{IsPictureOf}
use Rattle.wtf_journal.specs.Follows.{synced_kind}
use Rattle.wtf_journal.specs.Held.{held_by}
use Rattle.wtf_journal.specs.Records.{RestsAt}
use Rattle.wtf_journal.specs.Scan.{held_after}
use Rattle.wtf_replica.specs.Bytes.{byte_at}
use Rattle.wtf_model.specs.Machines.{Machine}
use Rattle.wtf_core.specs.Standing.{StandsFor}
use Rattle.wtf_core.specs.Telling.{TellsCore}
use Rattle.wtf_durable.specs.Views.{DurableScene, DurableView}

-- The records are at rest, nothing of them is pending, and they give an image of the metadata now, with the settings and the number of
-- installs. It keeps the rules of settings, numbers and the tree. Its next transaction is that of the last record: no file is of a later one, and it
-- is at most the core's.
pub record IsJournaled {D : Type 0} (kind : DiskKind D) (disk : D) (d : DurableView) : Type 0 where
  pub bodies : List (List ℕ)
  pub rests : RestsAt kind disk d.journal.end bodies
  pub rows : ImageRows
  pub gives : held_after held_by (Some None) bodies ≡ Some (Some rows)
  pub next : ℕ
  pub picture : IsPictureOf (shown d.core.tables.kv) d.core.settings d.core.tables.kv.number next rows
  pub good : AreGoodSettings rows
  pub tree : IsGoodTree rows
  pub begun : next ≤ d.core.tables.next_tx

-- The core stands for a machine, over stores that tell all that it names; and the journal, whose disk tells its content, for the metadata.
pub record StandsDurably {S D : Type 0} (stores : DiskKind S) (kind : DiskKind D) (s : DurableScene S D) (m : Machine) : Type 0 where
  pub shelf : TellsCore (synced_kind stores) s.shelf s.durable.core
  pub machine : StandsFor (byte_at (synced_kind stores) s.shelf) s.durable.core m
  pub disk : (kind.view s.disk).tells ≡ true
  pub journaled : IsJournaled kind s.disk s.durable
