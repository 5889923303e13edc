-- What reading a line, answering it and writing its answer give.
use Rattle.std.specs.Prelude.{◌≡◌, ◌≢◌, ◌⊎◌, ◌<◌, ◌≤◌, ◌+◌, ℕ, Bool, true, false, List, [], length, Option, Some, None, Result, Ok, Err, is_err}
use Rattle.std.proofs.Common.{inl, inr}
use Rattle.wtf_dev.specs.Counts.{Rose}
use Rattle.wtf_dev.specs.Streams.{SourceView, SinkView}
use Rattle.wtf_replica.specs.Outs.{SameFrom}
use Rattle.wtf_model.specs.declared.answer.Answer.{Answer}
use Rattle.wtf_model.specs.Lines.{Line}
use Rattle.wtf_serve.specs.declared.service.Stop.{Stop}
use Rattle.wtf_serve.specs.declared.service.Stop.TheVariants as stop
use Rattle.wtf_script.specs.declared.limits.TheConstants.{CHUNK_BYTES, SCRIPT_BYTES}
use Rattle.wtf_script.specs.Reading.{Held, ReadsLine, ReadsEnd, ReadsFault, ReadsTooMuch, ReadsShort, Counts, Draws, work}
use Rattle.wtf_serve.specs.Scripts.{line_of}
use Rattle.wtf_serve.specs.Engines.{Engine, Step, span_of}
use Rattle.wtf_serve.specs.Sparing.{SparesStores, LineSpares}
use Rattle.wtf_serve.specs.Answering.{IsFormLine}
use Rattle.wtf_serve.specs.Stocks.{Stock, KeeperGoesOn}
use Rattle.wtf_serve.specs.Turns.{IsLineDone, IsCutOff, IsLeftAlone, IsUnwritten}

-- what a run reads its lines from: the source, and what the reader holds of it
pub record Input : Type 0 where
  pub source : SourceView
  pub held : Held

abbrev pub input : SourceView → Held → Input
input source held = record { source = source; held = held }

-- a line was read, where the source tells its bytes
abbrev pub CameLine : Input → Input → List ℕ → Type 0
CameLine i i' line = (rest : List ℕ) → i.source.rest ≡ Some rest → ReadsLine line i.held rest i'.held i'.source.rest

-- a line was read that asks this
pub record HasLine (i i' : Input) (asked : Line) : Type 0 where
  pub line : List ℕ
  pub came : CameLine i i' line
  pub asks : line_of line ≡ asked
  pub less : work i'.held < work i.held

-- the end of the script
abbrev pub CameEnd : Input → Input → Type 0
CameEnd i i' = (rest : List ℕ) → i.source.rest ≡ Some rest → ReadsEnd i.held rest i'.held i'.source.rest

-- no memory was found while a line was read, or behind one that was
abbrev pub CameShort : Input → Input → Type 0
CameShort i i' =
    ((rest : List ℕ) → i.source.rest ≡ Some rest → ReadsShort i.held rest i'.held i'.source.rest) ⊎ ((line : List ℕ) × CameLine i i' line)

-- why there is neither
abbrev pub CameStop : Input → Input → Stop → Type 0
CameStop i i' stop.Unread =
    ((rest : List ℕ) → i.source.rest ≡ Some rest → ReadsFault i.held rest i'.source.rest)
    × Rose i.source.faults i'.source.faults × (i.held.ended ≢ true)
CameStop i i' stop.TooMuch =
    ((rest : List ℕ) → i.source.rest ≡ Some rest → ReadsTooMuch i.held rest i'.source.rest)
    × (i'.held.count ≡ SCRIPT_BYTES + 1) × (i.held.ended ≢ true)
CameStop i i' stop.Memory = CameShort i i'
CameStop i i' stop.Unwritten = ⊥

abbrev pub Came : Input → Input → Result (Option Line) Stop → Type 0
Came i i' (Ok (Some asked)) = HasLine i i' asked
Came i i' (Ok None) = CameEnd i i'
Came i i' (Err why) = CameStop i i' why

-- the event of a line that came is in form
abbrev pub IsFormRead : Result (Option Line) Stop → Type 0
IsFormRead (Ok (Some asked)) = IsFormLine asked
IsFormRead result = Unit {0}

-- what reading leaves, whatever came
pub record HasDrawn (i i' : Input) : Type 0 where
  pub grows : i.held.count ≤ i'.held.count
  pub most : i'.held.count ≤ SCRIPT_BYTES + 1
  pub few : length i'.held.bytes ≤ CHUNK_BYTES
  pub given : Draws i.held i'.held i.source i'.source
  pub counted : Counts i.held i'.held i.source i'.source
  pub faults : i.source.faults ≤ i'.source.faults

-- What a run has in hand: what it reads from, what it writes to, the stores with the keeper, and the state that answers
pub record Hand (S State : Type 0) : Type 0 where
  pub input : Input
  pub sink : SinkView
  pub stock : Stock S
  pub state : State

abbrev pub hand : {S State : Type 0} → Input → SinkView → Stock S → State → Hand S State
hand i sink stock state = record { input = i; sink = sink; stock = stock; state = state }

abbrev pub step_of : {S State : Type 0} → Hand S State → Hand S State → Step S State
step_of h h' = record { before = h.stock; after = h'.stock; old = h.state; new = h'.state }

-- one line was read, and that line was answered, and its answer written, before the next one is read; whether it asked
-- nothing
pub record IsAnswered {S State : Type 0} (engine : Engine S State) (h h' : Hand S State) (bad : Bool) : Type 0 where
  pub line : List ℕ
  pub bad_is : is_err (line_of line) ≡ bad
  pub came : CameLine h.input h'.input line
  pub done : IsLineDone engine (step_of h h') (line_of line) h.sink h'.sink
  pub less : work h'.input.held < work h.input.held

-- one line was read, and that line was answered, and its answer cut
pub record IsCutShort {S State : Type 0} (engine : Engine S State) (h h' : Hand S State) : Type 0 where
  pub line : List ℕ
  pub came : CameLine h.input h'.input line
  pub cut : IsCutOff engine (step_of h h') (line_of line) h.sink h'.sink

-- one line was read, and it was answered, and no memory was found for its answer
pub record IsLeftOut {S State : Type 0} (engine : Engine S State) (h h' : Hand S State) : Type 0 where
  pub line : List ℕ
  pub came : CameLine h.input h'.input line
  pub out : IsUnwritten engine (step_of h h') (line_of line)

-- neither the stores nor the keeper nor the state nor the sink was touched
pub record IsQuiet {S State : Type 0} (h h' : Hand S State) : Type 0 where
  pub stock : h'.stock ≡ h.stock
  pub state : h'.state ≡ h.state
  pub sink : h'.sink ≡ h.sink

-- for want of memory at most one line was read, nothing is written, and the keeper is as it was, and nothing was punched, unless that line was
-- answered
pub record IsShortOfMemory {S State : Type 0} (engine : Engine S State) (h h' : Hand S State) : Type 0 where
  pub came : CameShort h.input h'.input
  pub sink : h'.sink ≡ h.sink
  pub kept : IsLeftAlone engine (step_of h h') ⊎ IsLeftOut engine h h'

-- whether there was a line; without one nothing is written
abbrev pub PassCame : {S State : Type 0} → Engine S State → Hand S State → Hand S State → Result (Option Bool) Stop → Type 0
PassCame engine h h' (Ok (Some bad)) = IsAnswered engine h h' bad
PassCame engine h h' (Ok None) = CameEnd h.input h'.input × IsQuiet h h'
PassCame engine h h' (Err stop.Unwritten) = IsCutShort engine h h'
PassCame engine h h' (Err stop.Memory) = IsShortOfMemory engine h h'
PassCame engine h h' (Err why) = CameStop h.input h'.input why × IsQuiet h h'

-- all of it; what a line that was answered punched is said by its answer (`LinePunches`), and where none was the stock is what it was (`IsQuiet`)
pub record PassIs {S State : Type 0} (engine : Engine S State) (h h' : Hand S State) (result : Result (Option Bool) Stop) : Type 0 where
  pub came : PassCame engine h h' result
  pub drawn : HasDrawn h.input h'.input
  pub limit : result ≢ Err stop.TooMuch → h'.input.held.count ≤ SCRIPT_BYTES
  pub sink_faults : h.sink.faults ≤ h'.sink.faults
  pub keeper : KeeperGoesOn h.stock.keeper h'.stock.keeper

-- What the line of a pass left alone, where it was answered or not; without a line nothing was handed to the keeper.

abbrev pub ReadSpares : {S State : Type 0} → (engine : Engine S State) (handed : List (List ℕ) → Type 0) (h h' : Hand S State) → List ℕ → Answer → Type 0
ReadSpares engine handed h h' line a =
    LineSpares engine.kind handed (engine.settings h.state).servers (span_of engine (step_of h h')) (line_of line) (Some a)

abbrev pub ShortSpares : {S State : Type 0} → (engine : Engine S State) (handed : List (List ℕ) → Type 0) (h h' : Hand S State)
    → IsLeftAlone engine (step_of h h') ⊎ IsLeftOut engine h h' → Type 0
ShortSpares engine handed h h' (inl alone) =
    SparesStores engine.kind (span_of engine (step_of h h')) false × SameFrom (engine.settings h.state).servers h.stock.shelf h'.stock.shelf × handed []
ShortSpares engine handed h h' (inr out) = ReadSpares engine handed h h' out.line out.out.answer

abbrev pub PassSpares : {S State : Type 0} → (engine : Engine S State) (handed : List (List ℕ) → Type 0) (h h' : Hand S State)
    (result : Result (Option Bool) Stop) → PassCame engine h h' result → Type 0
PassSpares engine handed h h' (Ok (Some bad)) came = ReadSpares engine handed h h' came.line came.done.answer
PassSpares engine handed h h' (Ok None) came = handed []
PassSpares engine handed h h' (Err stop.Unwritten) came = ReadSpares engine handed h h' came.line came.cut.answer
PassSpares engine handed h h' (Err stop.Memory) came = ShortSpares engine handed h h' came.kept
PassSpares engine handed h h' (Err why) came = handed []

pub record PassDoes {S State : Type 0} (engine : Engine S State) (handed : List (List ℕ) → Type 0) (h h' : Hand S State)
    (result : Result (Option Bool) Stop) : Type 0 where
  pub is : PassIs engine h h' result
  pub spares : PassSpares engine handed h h' result is.came
