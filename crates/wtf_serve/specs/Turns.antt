-- What writing a text, and answering a line with its text, give.
use Rattle.std.specs.Prelude.{◌≡◌, ◌⊎◌, ℕ, List, [], ◌++◌, Option, None, Some, Result, Ok, Err}
use Rattle.std.proofs.Common.{inl, inr}
use Rattle.wtf_dev.specs.Counts.{Rose}
use Rattle.wtf_dev.specs.Each.{EachFollows}
use Rattle.wtf_dev.specs.Streams.{SinkView}
use Rattle.wtf_model.specs.declared.answer.Answer.{Answer}
use Rattle.wtf_model.specs.Lines.{Line}
use Rattle.wtf_serve.specs.declared.service.Stop.{Stop}
use Rattle.wtf_serve.specs.declared.service.Stop.TheVariants as stop
use Rattle.wtf_serve.specs.Scripts.{line_text}
use Rattle.wtf_serve.specs.Engines.{Engine, Step, span_of, IsAnswer}
use Rattle.wtf_serve.specs.Sparing.{LineSpares}
use Rattle.wtf_serve.specs.Stocks.{KeeperStays}

-- a front of a text was written, and no more
abbrev pub WroteFront : List ℕ → List ℕ → Option (List ℕ) → Type 0
WroteFront old text new = (front : List ℕ) × (back : List ℕ) × (text ≡ front ++ back) × (new ≡ Some (old ++ front))

-- all of a text was taken, or a front of it where the sink failed
abbrev pub AllTaken : {E : Type 0} → List ℕ → List ℕ → Option (List ℕ) → Result (Unit {0}) E → Type 0
AllTaken old text new (Ok u) = new ≡ Some (old ++ text)
AllTaken old text new (Err e) = WroteFront old text new

-- a line was answered, and its text was written whole
pub record IsLineDone {S State : Type 0} (engine : Engine S State) (t : Step S State) (line : Line) (sink sink' : SinkView) : Type 0 where
  pub answer : Answer
  pub is : IsAnswer engine t line answer
  pub wrote : (old : List ℕ) → sink.taken ≡ Some old → sink'.taken ≡ Some (old ++ line_text answer)
  pub still : sink'.faults ≡ sink.faults

-- a line was answered, and its text was cut by a fault of the sink
pub record IsCutOff {S State : Type 0} (engine : Engine S State) (t : Step S State) (line : Line) (sink sink' : SinkView) : Type 0 where
  pub answer : Answer
  pub is : IsAnswer engine t line answer
  pub wrote : (old : List ℕ) → sink.taken ≡ Some old → WroteFront old (line_text answer) sink'.taken
  pub cause : Rose sink.faults sink'.faults

-- no line was answered: the keeper was handed nothing, and nothing was punched
pub record IsLeftAlone {S State : Type 0} (engine : Engine S State) (t : Step S State) : Type 0 where
  pub keeper : KeeperStays t.before.keeper t.after.keeper
  pub follows : EachFollows engine.kind t.before.shelf t.after.shelf []

-- a line was answered, and no memory was found for the text
pub record IsUnwritten {S State : Type 0} (engine : Engine S State) (t : Step S State) (line : Line) : Type 0 where
  pub answer : Answer
  pub is : IsAnswer engine t line answer

-- what came of a line: for want of memory nothing is written, and unless it was answered the keeper was handed nothing, and nothing was punched
abbrev pub TurnIs : {S State : Type 0} → Engine S State → Step S State → Line → SinkView → SinkView → Result (Unit {0}) Stop → Type 0
TurnIs engine t line sink sink' (Ok u) = IsLineDone engine t line sink sink'
TurnIs engine t line sink sink' (Err stop.Unwritten) = IsCutOff engine t line sink sink'
TurnIs engine t line sink sink' (Err stop.Memory) = (sink' ≡ sink) × (IsLeftAlone engine t ⊎ IsUnwritten engine t line)
TurnIs engine t line sink sink' (Err other) = ⊥

-- the answer that was given, where one was
abbrev pub answer_for : {S State : Type 0} → (engine : Engine S State) (t : Step S State) (line : Line) → IsLeftAlone engine t ⊎ IsUnwritten engine t line
    → Option Answer
answer_for engine t line (inl alone) = None
answer_for engine t line (inr out) = Some out.answer

abbrev pub turn_answer : {S State : Type 0} → (engine : Engine S State) (t : Step S State) (line : Line) (sink sink' : SinkView)
    (result : Result (Unit {0}) Stop) → TurnIs engine t line sink sink' result → Option Answer
turn_answer engine t line sink sink' (Ok u) is = Some is.answer
turn_answer engine t line sink sink' (Err stop.Unwritten) is = Some is.answer
turn_answer engine t line sink sink' (Err stop.Memory) is = answer_for engine t line is.1
turn_answer engine t line sink sink' (Err other) is = None

-- and what the line left alone
pub record TurnDoes {S State : Type 0} (engine : Engine S State) (handed : List (List ℕ) → Type 0) (t : Step S State) (line : Line)
    (sink sink' : SinkView) (result : Result (Unit {0}) Stop) : Type 0 where
  pub is : TurnIs engine t line sink sink' result
  pub spares : LineSpares engine.kind handed (engine.settings t.old).servers (span_of engine t) line (turn_answer engine t line sink sink' result is)
