-- When a core stands for the machine of the definitions: committed transactions ran whole, one by one, on one tree.
-- NSDI 2016, sections 2.6 and 2.7.
use Rattle.std.specs.Prelude.{◌≡◌, ◌<◌, ◌^◌, ℕ}
use Rattle.std.specs.FinMap.{len}
use Rattle.wtf_replica.specs.Downs.{is_down}
use Rattle.wtf_model.specs.Machines.{Machine}
use Rattle.wtf_model.specs.Machines as machine
use Rattle.wtf_meta.specs.Contents.{Told}
use Rattle.wtf_core.specs.Views.{CoreView}
pub use Rattle.wtf_clients.specs.Standing.{StandsForTxn, StandsForSlot, IsImageTree, TablesStand, ScansStand}

-- the tree now has so few paths that each number of them can be kept, also behind the calls of a transaction
abbrev pub IsSmall : Machine → Type 0
IsSmall m = len m.now < 2 ^ 61

-- the tables stand for the machine, and so do the settings, the scans, and the servers that are down
pub record StandsFor (told : Told) (core : CoreView) (m : Machine) : Type 0 where
  pub settings : m.settings ≡ core.settings
  pub tables : TablesStand core.settings.region told core.tables m
  pub down : (k : ℕ) → is_down core.replicas k ≡ machine.is_down m k
  pub scans : ScansStand core.tables m
