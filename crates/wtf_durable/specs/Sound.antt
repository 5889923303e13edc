-- A durable store between two events, and the engine of a run that it is.
use Rattle.std.specs.Prelude.{◌≡◌, ◌⊎◌, ◌≤◌, false, List, [], length, Some, ⊤}
use Rattle.wtf_dev.specs.Disk.{DiskKind}
use Rattle.wtf_dev.specs.Store.{StoreKind}
use Rattle.wtf_dev.specs.Sums.{TellsAll}
use Rattle.wtf_journal.specs.Follows.{SyncedState, synced_kind}
use Rattle.wtf_replica.specs.Bytes.{byte_at}
use Rattle.wtf_replica.specs.Downs.{is_down}
use Rattle.wtf_gc.specs.Extents.{extents_cover}
use Rattle.wtf_core.specs.Keeping.{HoldsKept}
use Rattle.wtf_core.specs.Named.{IsInside, IsBased, IsFull}
use Rattle.wtf_core.specs.Standing.{StandsFor}
use Rattle.wtf_core.specs.Tables.{AreSound}
use Rattle.wtf_core.specs.Telling.{TellsCore, IsWide, IsWithin}
use Rattle.wtf_serve.specs.Engines.{Engine}
use Rattle.wtf_durable.specs.Views.{DurableView}

-- The core is open and its tables are sound; its number of installs is watched, so nothing is left to be told of them; its servers are
-- there, and all bytes that it names lie inside the stores. No call on the journal failed.
pub record IsSoundDurable {S : Type 0} (kind : StoreKind S) (shelf : List S) (d : DurableView) : Type 0 where
  pub not_closed : d.core.closed ≡ false
  pub tables : AreSound d.core.tables
  pub watched : d.core.tables.beside.watched ≡ Some d.core.tables.kv.number
  pub servers : d.core.settings.servers ≤ length shelf
  pub inside : IsInside kind shelf d.core
  pub whole : d.journal.failed ≡ false

-- It answers the lines of a run as its core does; over stores that tell their content it stands for what its core stands for. It keeps an
-- image for a keeper that holds what its core keeps one for, and for one that holds nothing. Nothing is said of quiet endings.
abbrev pub durable_engine : {S : Type 0} → DiskKind S → Engine (SyncedState S) DurableView
durable_engine stores = record {
  kind = synced_kind stores;
  settings = λ d. d.core.settings;
  down = λ d. is_down d.core.replicas;
  number = λ d. d.core.tables.kv.number;
  next_tx = λ d. d.core.tables.next_tx;
  sound = IsSoundDurable (synced_kind stores);
  stands = λ shelf d m. TellsAll (synced_kind stores) shelf → StandsFor (byte_at (synced_kind stores) shelf) d.core m;
  based = λ d. IsBased d.core;
  full = λ d. IsFull d.core;
  tells = λ shelf d. TellsCore (synced_kind stores) shelf d.core;
  wide = λ shelf d. IsWide (synced_kind stores) shelf d.core;
  within = λ shelf d. IsWithin (synced_kind stores) shelf d.core;
  kept = λ keeper d. HoldsKept keeper d.core.settings d.core.tables ⊎ (keeper.held ≡ Some []);
  freed = λ d. extents_cover d.core.tables.beside.gc.freed;
  quiet = λ s shelf d. ⊤;
  collected = λ k shelf d. ⊤;
}
