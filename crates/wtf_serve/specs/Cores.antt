-- The engine of a run: the core that answers its lines.
use Rattle.std.specs.Prelude.{◌≡◌, ◌≤◌, false, List, length, None}
use Rattle.wtf_dev.specs.Store.{StoreKind}
use Rattle.wtf_replica.specs.Bytes.{byte_at}
use Rattle.wtf_replica.specs.Downs.{is_down}
use Rattle.wtf_core.specs.Views.{CoreView}
use Rattle.wtf_core.specs.Tables.{AreSound}
use Rattle.wtf_core.specs.Standing.{StandsFor}
use Rattle.wtf_core.specs.Named.{IsInside, IsBased, IsFull}
use Rattle.wtf_core.specs.Keeping.{HoldsKept}
use Rattle.wtf_core.specs.Quiet.{IsAtStage, HasCollected}
use Rattle.wtf_core.specs.Telling.{TellsCore, IsWide, IsWithin}
use Rattle.wtf_gc.specs.Extents.{extents_cover}
use Rattle.wtf_serve.specs.Engines.{Engine}

-- a core between two lines: it is open, its tables are sound, no number is watched, its servers are there, and all bytes
-- that it names lie inside the stores
pub record IsSoundCore {S : Type 0} (kind : StoreKind S) (shelf : List S) (core : CoreView) : Type 0 where
  pub not_closed : core.closed ≡ false
  pub tables : AreSound core.tables
  pub unwatched : core.tables.beside.watched ≡ None
  pub servers : core.settings.servers ≤ length shelf
  pub inside : IsInside kind shelf core

abbrev pub engine : {S : Type 0} → StoreKind S → Engine S CoreView
engine kind = record {
  kind = kind;
  settings = λ core. core.settings;
  down = λ core. is_down core.replicas;
  number = λ core. core.tables.kv.number;
  next_tx = λ core. core.tables.next_tx;
  sound = IsSoundCore kind;
  stands = λ shelf core m. StandsFor (byte_at kind shelf) core m;
  based = IsBased;
  full = IsFull;
  tells = TellsCore kind;
  wide = IsWide kind;
  within = IsWithin kind;
  kept = λ keeper core. HoldsKept keeper core.settings core.tables;
  freed = λ core. extents_cover core.tables.beside.gc.freed;
  quiet = λ s shelf core. IsAtStage kind shelf core s;
  collected = λ k shelf core. HasCollected kind shelf core k;
}
