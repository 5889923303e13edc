-- With what a run begins its lines, and with what it ends them.
use Rattle.std.specs.Prelude.{◌≡◌, ◌⊎◌, ◌<◌, ◌≤◌, ℕ, Bool, false, List, length, Some, Ok, ⊤}
use Rattle.wtf_base.specs.declared.settings.Settings.{Settings}
use Rattle.wtf_base.specs.Places.{Place}
use Rattle.wtf_dev.specs.Counts.{Rose}
use Rattle.wtf_dev.specs.Keep.{KeeperView}
use Rattle.wtf_dev.specs.Store.{StoreKind}
use Rattle.wtf_dev.specs.Streams.{SinkView}
use Rattle.wtf_dev.specs.Sums.{TellsAll}
use Rattle.wtf_replica.specs.Bytes.{byte_at}
use Rattle.wtf_model.specs.declared.answer.Answer.TheVariants as answer
use Rattle.wtf_model.specs.declared.event.Event.TheVariants as event
use Rattle.wtf_model.specs.Servers.{none_down}
use Rattle.wtf_model.specs.Tree.{Tree}
use Rattle.wtf_image.specs.declared.error.LoadError.TheVariants as error
use Rattle.wtf_image.specs.Rules.{size_in}
use Rattle.wtf_serve.specs.declared.opening.NotOpened.{NotOpened}
use Rattle.wtf_serve.specs.declared.opening.NotOpened.TheVariants.{Few, Image}
use Rattle.wtf_serve.specs.Engines.{Engine, IsAsGiven, IsAsTold, Step, IsAnswer}
use Rattle.wtf_serve.specs.Openings.{Opening, Opens, IsTakenOver, StartsFrom, first}
use Rattle.wtf_serve.specs.Scripts.{end_status}
use Rattle.wtf_serve.specs.Unopened.{IsRefusedBy, Refuses}
use Rattle.wtf_serve.specs.Stocks.{KeeperStays}

-- A state that a run can begin with: what it was opened with is the state's, all servers are up, and it stands for the
-- machine before the first line. There are stores enough, an image is taken and kept, and nothing was freed.
pub record CanBegin {S State : Type 0} (engine : Engine S State) (opening : Opening) (shelf : List S) (state : State)
    : Type 0 where
  pub sound : engine.sound shelf state
  pub settings : engine.settings state ≡ opening.settings
  pub number : engine.number state ≡ opening.number
  pub next_tx : engine.next_tx state ≡ opening.next_tx
  pub up : engine.down state ≡ none_down
  pub unfreed : (p : Place) → engine.freed state p ≡ false
  pub kept : (k : KeeperView) → k.held ≡ Some opening.bytes → engine.kept k state
  pub given : IsAsGiven engine opening.bytes ⊤ state
  pub told : TellsAll engine.kind shelf → IsAsTold engine opening shelf shelf state
  pub stands : (t : Tree) → StartsFrom (byte_at engine.kind shelf) opening.bytes t → engine.stands shelf state (first opening t)
  pub enough : opening.settings.servers ≤ length shelf
  pub taken : IsTakenOver (size_in engine.kind shelf) opening.bytes

-- bytes that a keeper gave open a run, with which this state can begin, where these settings were asked for
pub record IsOpenedBy {S State : Type 0} (engine : Engine S State) (asked : Settings) (bytes : List ℕ) (shelf : List S)
    (state : State) : Type 0 where
  pub opening : Opening
  pub bytes_are : opening.bytes ≡ bytes
  pub opens : Opens asked opening.bytes opening
  pub ready : CanBegin engine opening shelf state

-- the same of what a keeper held, where it tells that
pub record IsOpenedFrom {S State : Type 0} (engine : Engine S State) (asked : Settings) (keeper : KeeperView) (shelf : List S)
    (state : State) : Type 0 where
  pub opening : Opening
  pub opens : Opens asked opening.bytes opening
  pub given : (held : List ℕ) → keeper.held ≡ Some held → opening.bytes ≡ held
  pub ready : CanBegin engine opening shelf state

-- what the bytes ask for has more servers than there are stores
pub record IsFewFor (asked : Settings) (bytes : List ℕ) (stores : ℕ) : Type 0 where
  pub opening : Opening
  pub bytes_are : opening.bytes ≡ bytes
  pub opens : Opens asked opening.bytes opening
  pub few : stores < opening.settings.servers

-- why bytes that a keeper gave open no run; memory may be wanted at any time
abbrev pub IsUnopenedBy : {S : Type 0} → StoreKind S → Settings → List ℕ → List S → NotOpened → Type 0
IsUnopenedBy kind asked bytes shelf Few = IsFewFor asked bytes (length shelf)
IsUnopenedBy kind asked bytes shelf (Image error.Memory) = ⊤
IsUnopenedBy kind asked bytes shelf (Image why) = IsRefusedBy (size_in kind shelf) (length shelf) bytes why

-- how a run that was not opened ends
abbrev pub EndsBy : NotOpened → ℕ → SinkView → SinkView → Type 0
EndsBy Few status old new = (status ≡ 2) × (new ≡ old)
EndsBy (Image error.Memory) status old new = (status ≡ 7) × (new ≡ old)
EndsBy (Image why) status old new = Refuses why status old new

-- What comes of the closing save, where `bad` says whether a line asked nothing: it saved, it failed, or memory was wanted,
-- and then the keeper was handed nothing.
abbrev pub Closes : {S State : Type 0} → Engine S State → Step S State → Bool → ℕ → Type 0
Closes engine t bad status =
    ((n : ℕ) × (status ≡ end_status bad) × IsAnswer engine t (Ok event.Save) (answer.Saved n))
    ⊎ ((status ≡ 5) × IsAnswer engine t (Ok event.Save) answer.FaultSave)
    ⊎ ((status ≡ 7) × KeeperStays t.before.keeper t.after.keeper)

-- What comes of the end of a script: what the sink held back was brought out, and then the tree was saved or not; or the sink failed,
-- and then nothing was saved. No byte is added to what it took.
pub record Ends {S State : Type 0} (engine : Engine S State) (t : Step S State) (sink sink' : SinkView) (bad : Bool) (status : ℕ)
    : Type 0 where
  pub taken : (bytes : List ℕ) → sink.taken ≡ Some bytes → sink'.taken ≡ Some bytes
  pub rises : sink.faults ≤ sink'.faults
  pub ends : ((sink'.faults ≡ sink.faults) × Closes engine t bad status)
      ⊎ ((status ≡ 4) × (t.after ≡ t.before) × Rose sink.faults sink'.faults)
