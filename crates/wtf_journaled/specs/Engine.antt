-- The engine of a journaled run: a durable store with the disk of its journal.
use Rattle.std.specs.Prelude.{◌≡◌, true, List, ⊤}
use Rattle.wtf_dev.specs.Disk.{DiskKind}
use Rattle.wtf_dev.specs.Streams.{SinkView}
use Rattle.wtf_dev.specs.Sums.{TellsAll}
use Rattle.wtf_journal.specs.Follows.{SyncedState, synced_kind}
use Rattle.wtf_model.specs.Machines.{Machine}
use Rattle.wtf_core.specs.Promises.{CoreHasRoom}
use Rattle.wtf_serve.specs.Engines.{Engine}
use Rattle.wtf_serve.specs.Passes.{Hand, Input, hand}
use Rattle.wtf_serve.specs.Stocks.{stock}
use Rattle.wtf_durable.specs.Journaled.{StandsDurably}
use Rattle.wtf_durable.specs.Sound.{IsSoundDurable, durable_engine}
use Rattle.wtf_durable.specs.Views.{DurableScene, DurableView, ReachesGate, blind, durable_scene}

-- the durable store, and the disk that its journal is on
pub record JournaledState (D : Type 0) : Type 0 where
  pub durable : DurableView
  pub disk : D

abbrev pub journaled : {D : Type 0} → DurableView → D → JournaledState D
journaled durable disk = record { durable = durable; disk = disk }

-- it is sound, and file 0 reaches to its journal's closed gate
pub record IsSoundJournaled {S D : Type 0} (stores : DiskKind S) (kind : DiskKind D) (shelf : List (SyncedState S)) (s : JournaledState D) : Type 0 where
  pub durable : IsSoundDurable (synced_kind stores) shelf s.durable
  pub reach : ReachesGate kind s.disk s.durable

-- The journal stands for the machine, too, where its disk tells its content, and an image has room for the numbers.
pub record StandsJournaled {S D : Type 0} (stores : DiskKind S) (kind : DiskKind D) (shelf : List (SyncedState S)) (s : JournaledState D) (m : Machine)
    : Type 0 where
  pub core : (durable_engine stores).stands shelf s.durable m
  pub journal : TellsAll (synced_kind stores) shelf → (kind.view s.disk).tells ≡ true → CoreHasRoom s.durable.core
      → StandsDurably stores kind (durable_scene shelf s.disk s.durable) m

-- it answers the lines of a run as the durable store does
abbrev pub journaled_engine : {S D : Type 0} → DiskKind S → DiskKind D → Engine (SyncedState S) (JournaledState D)
journaled_engine stores kind = record {
  kind = synced_kind stores;
  settings = λ s. (durable_engine stores).settings s.durable;
  down = λ s. (durable_engine stores).down s.durable;
  number = λ s. (durable_engine stores).number s.durable;
  next_tx = λ s. (durable_engine stores).next_tx s.durable;
  sound = IsSoundJournaled stores kind;
  stands = StandsJournaled stores kind;
  based = λ s. (durable_engine stores).based s.durable;
  full = λ s. (durable_engine stores).full s.durable;
  tells = λ shelf s. (durable_engine stores).tells shelf s.durable;
  wide = λ shelf s. (durable_engine stores).wide shelf s.durable;
  within = λ shelf s. TellsAll (synced_kind stores) shelf × (durable_engine stores).within shelf s.durable;
  kept = λ keeper s. (durable_engine stores).kept keeper s.durable;
  freed = λ s. (durable_engine stores).freed s.durable;
  quiet = λ stage shelf s. ⊤;
  collected = λ k shelf s. ⊤;
}

-- what a run has in hand: the stores, the durable store, and the disk of its journal
abbrev pub JournaledHand : (S D : Type 0) → Type 0
JournaledHand S D = Hand (SyncedState S) (JournaledState D)

abbrev pub journaled_hand : {S D : Type 0} → DiskKind D → Input → SinkView → List (SyncedState S) → JournaledState D → JournaledHand S D
journaled_hand kind i sink shelf s = hand i sink (stock shelf (blind (kind.view s.disk))) s

abbrev pub scene_of : {S D : Type 0} → JournaledHand S D → DurableScene S D
scene_of h = durable_scene h.stock.shelf h.state.disk h.state.durable
