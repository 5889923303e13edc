-- What contracts see of a durable store, and of the devices that it stands on.
use Rattle.std.specs.Prelude.{◌<◌, false, List, None}
use Rattle.wtf_dev.specs.Disk.{DiskKind, DiskView}
use Rattle.wtf_dev.specs.Keep.{KeeperView}
use Rattle.wtf_journal.specs.Follows.{SyncedState}
use Rattle.wtf_journal.specs.Views.{JournalView}
use Rattle.wtf_core.specs.Promises.{Scene, scene}
use Rattle.wtf_core.specs.Views.{CoreView}

-- the core, and the journal of its installs
pub record DurableView : Type 0 where
  pub core : CoreView
  pub journal : JournalView

-- the stores, the disk of the journal, and what stands on them, at one time
pub record DurableScene (S D : Type 0) : Type 0 where
  pub shelf : List (SyncedState S)
  pub disk : D
  pub durable : DurableView

abbrev pub durable_scene : {S D : Type 0} → List (SyncedState S) → D → DurableView → DurableScene S D
durable_scene shelf disk durable = record { shelf = shelf; disk = disk; durable = durable }

-- The journal's disk in the place of a keeper of images, of which only the count of faults is seen: what the journal holds is told of the disk.
abbrev pub blind : DiskView → KeeperView
blind v = record { faults = v.faults; held = None; tells = false }

-- the core over the stores
abbrev pub core_scene : {S D : Type 0} → DiskKind D → DurableScene S D → Scene (SyncedState S)
core_scene kind s = scene s.shelf (blind (kind.view s.disk)) s.durable.core

-- file 0 reaches to the journal's closed gate
abbrev pub ReachesGate : {D : Type 0} → DiskKind D → D → DurableView → Type 0
ReachesGate kind disk d = d.journal.end < (kind.view disk).size 0
