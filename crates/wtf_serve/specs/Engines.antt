-- What a run is given of the state that answers its lines, and what answering one line is.
use Rattle.std.specs.Prelude.{◌≡◌, ◌≢◌, ◌⊎◌, ◌+◌, ◌<◌, ◌≤◌, ◌^◌, ℕ, Bool, true, false, List, [], Some, Ok, Err, ⊤}
use Rattle.std.specs.Bool.{MatchBool}
use Rattle.wtf_base.specs.declared.settings.Settings.{Settings}
use Rattle.wtf_base.specs.declared.slice.Slice.{Slice}
use Rattle.wtf_base.specs.Places.{Place}
use Rattle.wtf_dev.specs.Counts.{Rose}
use Rattle.wtf_dev.specs.Each.{EachFollows}
use Rattle.wtf_dev.specs.Keep.{KeeperView}
use Rattle.wtf_dev.specs.Store.{Range, StoreKind}
use Rattle.wtf_replica.specs.Bytes.{byte_at}
use Rattle.wtf_replica.specs.Inside.{size_in}
use Rattle.wtf_replica.specs.Spans.{Span, span}
use Rattle.wtf_gc.specs.Frees.{lie_in}
use Rattle.wtf_model.specs.declared.answer.Answer.{Answer}
use Rattle.wtf_model.specs.declared.answer.Answer.TheVariants as answer
use Rattle.wtf_model.specs.declared.event.Event.{Event}
use Rattle.wtf_model.specs.declared.event.Event.TheVariants as event
use Rattle.wtf_model.specs.Machines.{Machine}
use Rattle.wtf_model.specs.Lines.{Line, MayLine, after_line}
use Rattle.wtf_model.specs.Servers.{down_after}
use Rattle.wtf_model.specs.Tree.{Tree}
use Rattle.wtf_core.specs.Named.{no_slice}
use Rattle.wtf_core.specs.Outcomes.{AddsBytes, IsUnspilled, IsUnread, SaveFault, HasCause}
use Rattle.wtf_core.specs.Pictured.{IsBareImage}
use Rattle.wtf_core.specs.Standing.{IsSmall}
use Rattle.wtf_core.specs.Telling.{stores_of}
use Rattle.wtf_core.specs.Quiet.{ImageNames, IsIdle, Stage, Saved, ScannedTwice}
use Rattle.wtf_serve.specs.Answering.{IsOwnAnswer, line_load}
use Rattle.wtf_serve.specs.Openings.{Opening, StartsFrom}
use Rattle.wtf_serve.specs.Punched.{ArePunchedIn, CountsIn, punch_fault_count}
use Rattle.wtf_serve.specs.Quiet.{line_stage}
use Rattle.wtf_serve.specs.Stocks.{Stock, IsSaveFault, HoldsOneOf, HoldsSome, HoldsStart, HoldsJust, KeeperStays}

-- What a run is given of the state that answers its lines: the kind of its stores; the settings, which servers are down,
-- how many installs there were and the number of the next transaction; when it is sound over stores, and when it stands
-- for a machine; when the slice of each base passes a test; and when no region has a base, and each byte that is named has as many
-- copies as there are replicas. And of stores that tell their content: when they tell each byte that the state names, also those that
-- the lists of bases name; when each of these has as many copies as there are replicas; and when each lies inside the stores. And of
-- collection: when a keeper holds an image that is kept for it, so that its bytes stay; which bytes were freed; how far a quiet ending has come;
-- and when one has collected what a server has of garbage.
pub record Engine (S State : Type 0) : Type 1 where
  pub kind : StoreKind S
  pub settings : State → Settings
  pub down : State → ℕ → Bool
  pub number : State → ℕ
  pub next_tx : State → ℕ
  pub sound : List S → State → Type 0
  pub stands : List S → State → Machine → Type 0
  pub based : State → (Slice → Bool) → Type 0
  pub full : State → Type 0
  pub tells : List S → State → Type 0
  pub wide : List S → State → Type 0
  pub within : List S → State → Type 0
  pub kept : KeeperView → State → Type 0
  pub freed : State → Place → Bool
  pub quiet : Stage → List S → State → Type 0
  pub collected : ℕ → List S → State → Type 0

-- no region has a base: all lists of regions are in the metadata
abbrev pub IsBareState : {S State : Type 0} → Engine S State → State → Type 0
IsBareState engine state = engine.based state no_slice

-- What a state has of the bytes that the keeper gave at the begin, where no region was spilled since, as `unspilled` says: where it
-- gave none each slice has as many copies as there are replicas, and no region has a base; and where no region of its image has one,
-- none has.
pub record IsAsGiven {S State : Type 0} (engine : Engine S State) (bytes : List ℕ) (unspilled : Type 0) (state : State) : Type 0 where
  pub full : unspilled → bytes ≡ [] → engine.full state
  pub bare : unspilled → IsBareImage bytes → IsBareState engine state

-- What a state has of them, whatever was spilled since, over stores that told their content at the begin: they tell each byte that it
-- names. Where the keeper gave no byte each of these has as many copies as there are replicas. And each lies inside the stores where no
-- region of its image has a base, or it gave none; or where the stores of its settings' servers tell that tree by
-- themselves.
pub record IsAsTold {S State : Type 0} (engine : Engine S State) (opening : Opening) (before now : List S) (state : State) : Type 0 where
  pub tells : (t : Tree) → StartsFrom (byte_at engine.kind before) opening.bytes t → engine.tells now state
  pub wide : opening.bytes ≡ [] → engine.wide now state
  pub within : (t : Tree) → StartsFrom (byte_at engine.kind before) opening.bytes t → IsBareImage opening.bytes → engine.within now state
  pub within_from : (t : Tree) → StartsFrom (byte_at engine.kind (stores_of opening.settings before)) opening.bytes t → engine.within now state

-- What counts as freed in a state lies in the ranges that were punched since the begin, and where no collection failed that is all of them.
pub record IsAsPunched {S State : Type 0} (engine : Engine S State) (punched : List (ℕ × Range)) (answers : List Answer) (state : State) : Type 0 where
  pub only : (p : Place) → engine.freed state p ≡ true → lie_in punched p ≡ true
  pub all : punch_fault_count answers ≡ 0 → (p : Place) → lie_in punched p ≡ true → engine.freed state p ≡ true

-- the stores with the keeper, and the state, before a line and after its answer
pub record Step (S State : Type 0) : Type 0 where
  pub before : Stock S
  pub after : Stock S
  pub old : State
  pub new : State

abbrev pub step : {S State : Type 0} → Stock S → Stock S → State → State → Step S State
step before after old new = record { before = before; after = after; old = old; new = new }

-- the stores over a step, with the servers that are down before it
abbrev pub span_of : {S State : Type 0} → Engine S State → Step S State → Span S
span_of engine t = span (engine.down t.old) t.before.shelf t.after.shelf

abbrev pub is_save_event : Event → Bool
is_save_event event.Save = true
is_save_event e = false

abbrev pub is_save : Line → Bool
is_save (Ok e) = is_save_event e
is_save (Err bad) = false

-- What answering a line is, in seven parts of which none needs another:

-- the state goes on: it is sound, under the same settings, and which servers are down follows the lines `down` and `up`; a line that
-- asks nothing gets its own answer; an image that is kept for a keeper that tells goes on to be; a save begins no transaction; and only a spill
-- makes a region's list a slice
pub record StateGoesOn {S State : Type 0} (engine : Engine S State) (t : Step S State) (line : Line) (a : Answer) : Type 0 where
  pub sound : engine.sound t.after.shelf t.new
  pub settings : engine.settings t.new ≡ engine.settings t.old
  pub down : engine.down t.new ≡ down_after (engine.down t.old) line a
  pub number : engine.number t.new ≤ engine.number t.old + 1
  pub next_tx : engine.next_tx t.new ≤ engine.next_tx t.old + 1
  pub same_next_tx : is_save line ≡ true → engine.next_tx t.new ≡ engine.next_tx t.old
  pub bare : IsUnspilled (line_load line) a → IsBareState engine t.old → IsBareState engine t.new
  pub full : IsUnspilled (line_load line) a → engine.full t.old → engine.full t.new
  pub own : IsOwnAnswer line a
  pub kept : t.before.keeper.tells ≡ true → engine.kept t.before.keeper t.old → engine.kept t.after.keeper t.new

-- what a line that was answered `saved` leaves on a keeper that tells: the image of the state before it, with its settings and
-- its numbers
abbrev pub LineLeaves : {S State : Type 0} → Engine S State → Step S State → Line → Answer → Type 0
LineLeaves engine t (Ok event.Save) (answer.Saved n) =
    HoldsJust engine.kind t.after (engine.settings t.old) (engine.number t.old) (engine.next_tx t.old)
LineLeaves engine t line a = ⊤

-- an image has room for the numbers
pub record StateHasRoom {S State : Type 0} (engine : Engine S State) (state : State) : Type 0 where
  pub number : engine.number state ≤ 2 ^ 62
  pub next_tx : engine.next_tx state ≤ 2 ^ 62

-- each byte of server k was freed, or is named by the image that the keeper holds, over the stores as they are left
abbrev pub LeavesNamed : {S State : Type 0} → Engine S State → Step S State → ℕ → Type 0
LeavesNamed engine t k =
    (bytes : List ℕ) → t.after.keeper.held ≡ Some bytes → (p : Place) → p.server ≡ k → p.file < 8 → p.at < size_in engine.kind t.after.shelf k p.file
    → (engine.freed t.new p ≡ true) ⊎ ImageNames (byte_at engine.kind t.after.shelf) bytes p

-- The state stood for a machine: the machine may give that answer, the state stands for its next, and has its number. As long as
-- an image has room for the numbers, a keeper that tells what it is handed, and held the image of a tree that the machine may
-- have saved, one that is kept for it, does so behind the line; one with which a run can begin, it holds on to such a one; and after `saved` that is the
-- image of the state. A save of a machine of which nothing is open begins a quiet ending; and one behind a quiet ending leaves an image that
-- names each byte of the server that was not freed.
pub record IsLineLawful {S State : Type 0} (engine : Engine S State) (t : Step S State) (m : Machine) (line : Line) (a : Answer)
    : Type 0 where
  pub stands : engine.stands t.after.shelf t.new (after_line m line a)
  pub may : MayLine m line a
  pub number : engine.number t.new ≡ (after_line m line a).number
  pub saved : t.before.keeper.tells ≡ true → StateHasRoom engine t.old
      → engine.kept t.before.keeper t.old → HoldsOneOf engine.kind t.before m.may_be_saved → HoldsOneOf engine.kind t.after (after_line m line a).may_be_saved
  pub taken : t.before.keeper.tells ≡ true → StateHasRoom engine t.old
      → HoldsStart engine.kind t.before (engine.settings t.old) (engine.number t.old) (engine.next_tx t.old)
      → HoldsStart engine.kind t.after (engine.settings t.old) (engine.number t.new) (engine.next_tx t.new)
  pub leaves : t.before.keeper.tells ≡ true → StateHasRoom engine t.old → LineLeaves engine t line a
  pub rests : IsIdle m → (n : ℕ) → line ≡ Ok event.Save → a ≡ answer.Saved n → engine.quiet Saved t.after.shelf t.new
  pub left : (k n : ℕ) → engine.collected k t.before.shelf t.old → line ≡ Ok event.Save → a ≡ answer.Saved n → t.before.keeper.tells ≡ true
      → LeavesNamed engine t k

-- the same of each machine that the state stands for, whose tree is small, where the stores tell what the state names
abbrev pub Obeys : {S State : Type 0} → Engine S State → Step S State → Line → Answer → Type 0
Obeys engine t line a =
    engine.tells t.before.shelf t.old → (m : Machine) → IsSmall m → engine.stands t.before.shelf t.old m → IsLineLawful engine t m line a

-- the stores grew by what the line writes
abbrev pub Stores : {S State : Type 0} → Engine S State → Step S State → Line → Answer → Type 0
Stores engine t line a = AddsBytes engine.kind (span_of engine t) (engine.settings t.old) (line_load line) a

-- a save may have failed in a line that is one
abbrev pub IsSaveFailure : {S State : Type 0} → Engine S State → Step S State → Line → Type 0
IsSaveFailure engine t (Ok e) =
    SaveFault engine.kind (span_of engine t) (engine.settings t.old) (Rose t.before.keeper.faults t.after.keeper.faults) e
IsSaveFailure engine t (Err bad) = ⊥

-- a fault has its cause in this very line
abbrev pub IsCaused : {S State : Type 0} → Engine S State → Step S State → Line → Answer → Type 0
IsCaused engine t line a =
    HasCause engine.kind (span_of engine t) (engine.settings t.old) (IsSaveFailure engine t line) (engine.based t.old) (engine.full t.old)
    (line_load line) a

-- Over stores that tell what the state names, which stands for a machine: they go on to. Where each of these bytes has as many copies as there are
-- replicas each goes on to have them, and one that was not read had as many; where each lies inside the stores each goes on to lie there, and no list
-- was read that is none. And a quiet ending goes on, and so does what it has collected.
pub record IsToldAnswer {S State : Type 0} (engine : Engine S State) (t : Step S State) (line : Line) (a : Answer) : Type 0 where
  pub next : engine.tells t.after.shelf t.new
  pub wide : engine.wide t.before.shelf t.old → engine.wide t.after.shelf t.new
  pub unread : engine.wide t.before.shelf t.old → (k : ℕ) → a ≡ answer.FaultRead k
      → IsUnread engine.kind (span_of engine t) (engine.settings t.old) ⊤ k
  pub within : engine.within t.before.shelf t.old → engine.within t.after.shelf t.new
  pub undamaged : engine.within t.before.shelf t.old → (k : ℕ) → a ≢ answer.Damaged k
  pub quiet : (s next : Stage) → line_stage s line a ≡ Some next → engine.quiet s t.before.shelf t.old → engine.quiet next t.after.shelf t.new
  pub collected : (k n : ℕ) → line ≡ Ok (event.Collect k) → a ≡ answer.Collected n → engine.quiet ScannedTwice t.before.shelf t.old
      → engine.collected k t.after.shelf t.new
  pub stays : (k : ℕ) (s next : Stage) → line_stage s line a ≡ Some next → engine.collected k t.before.shelf t.old → engine.collected k t.after.shelf t.new

abbrev pub EngineTells : {S State : Type 0} → Engine S State → Step S State → Line → Answer → Type 0
EngineTells engine t line a =
    engine.tells t.before.shelf t.old → (m : Machine) → engine.stands t.before.shelf t.old m → IsToldAnswer engine t line a

-- the ranges that a line punched: each store follows what it was, with its own of these
pub record LinePunches {S State : Type 0} (engine : Engine S State) (t : Step S State) (line : Line) (a : Answer) : Type 0 where
  pub ranges : List (ℕ × Range)
  pub are : ArePunchedIn (engine.freed t.old) line a ranges
  pub counts : CountsIn (engine.freed t.old) (engine.freed t.new) a ranges
  pub follows : EachFollows engine.kind t.before.shelf t.after.shelf ranges

-- what a save leaves on the keeper: an image, or there is a cause why it failed
abbrev pub Saves : {S State : Type 0} → Engine S State → Step S State → Answer → Type 0
Saves engine t (answer.Saved n) = HoldsSome t.before.keeper t.after.keeper
Saves engine t answer.FaultSave =
    IsSaveFault engine.kind (span_of engine t) (engine.settings t.old).servers t.before.keeper t.after.keeper
Saves engine t a = ⊥

-- behind a line that is no save the keeper holds what it told (that it was handed nothing is said by `Sparing`)
abbrev pub HandsOnlySaves : {S State : Type 0} → Engine S State → Step S State → Line → Answer → Type 0
HandsOnlySaves engine t line a = MatchBool (is_save line) (Saves engine t a) (KeeperStays t.before.keeper t.after.keeper)

-- all seven
pub record IsAnswer {S State : Type 0} (engine : Engine S State) (t : Step S State) (line : Line) (a : Answer) : Type 0 where
  pub goes_on : StateGoesOn engine t line a
  pub lawful : Obeys engine t line a
  pub stored : Stores engine t line a
  pub caused : IsCaused engine t line a
  pub told : EngineTells engine t line a
  pub punched : LinePunches engine t line a
  pub kept : HandsOnlySaves engine t line a
