-- A run that breaks off: why, and what a stop leaves then.
use Rattle.std.specs.Prelude.{◌≡◌, ◌⊎◌, ◌<◌, ◌+◌, ◌^◌, ◌==◌, if◌then◌else◌, ℕ, List, Result, Ok, Err}
use Rattle.wtf_dev.specs.Counts.{Rose}
use Rattle.wtf_dev.specs.Disk.{DiskKind}
use Rattle.wtf_model.specs.declared.answer.Answer.{Answer}
use Rattle.wtf_model.specs.Lines.{Line, MayLine, after_line}
use Rattle.wtf_model.specs.Machines.{Machine}
use Rattle.wtf_serve.specs.declared.service.Stop.{Stop}
use Rattle.wtf_serve.specs.declared.service.Stop.TheVariants as stop
use Rattle.wtf_serve.specs.Endings.{stop_status}
use Rattle.wtf_serve.specs.Passes.{CameLine, Input, IsQuiet}
use Rattle.wtf_serve.specs.Scripts.{line_of}
use Rattle.wtf_durable.specs.Journaled.{StandsDurably}
use Rattle.wtf_core.specs.Standing.{IsSmall}
use Rattle.wtf_core.specs.Views.{CoreView}
use Rattle.wtf_durable.specs.Stops.{LeavesStore, Leftover, StopNow}
use Rattle.wtf_durable.specs.Views.{DurableScene}
use Rattle.wtf_journaled.specs.declared.halt.Halt.{Halt}
use Rattle.wtf_journaled.specs.declared.halt.Halt.TheVariants as halt
use Rattle.wtf_journaled.specs.Engine.{JournaledHand, scene_of}

-- to whom knows of no journal, a journal that failed is a want of memory: the line has no answer
abbrev pub stop_of : Halt → Stop
stop_of (halt.Stopped why) = why
stop_of halt.Journal = stop.Memory

abbrev pub stopped : {T : Type 0} → Result T Halt → Result T Stop
stopped (Ok x) = Ok x
stopped (Err why) = Err (stop_of why)

-- the status of a run that breaks off
abbrev pub halt_status : Halt → ℕ
halt_status (halt.Stopped why) = stop_status why
halt_status halt.Journal = 5

-- and the one that it has to whom knows of no journal
abbrev pub text_status : ℕ → ℕ
text_status status = if status == 5 then 7 else status

-- an image has room for the numbers behind one line more
abbrev pub MayGrow : CoreView → Type 0
MayGrow core = (core.tables.kv.number < 2 ^ 62) × (core.tables.next_tx < 2 ^ 62)

-- the machine behind a line with some answer that it may give
abbrev pub MayGive : Machine → Line → Machine → Type 0
MayGive m line n = (a : Answer) × MayLine m line a × (n ≡ after_line m line a)

-- A stop behind a line on a small tree that was not answered, or not told of, leaves a store to go on with, from the machine before it, or the one
-- behind it.
abbrev pub SurvivesLine : {S D : Type 0} → DiskKind S → DiskKind D → (old new : DurableScene S D) → Line → Type 0
SurvivesLine stores kind old new line =
    (m : Machine) → IsSmall m → StandsDurably stores kind old m → MayGrow old.durable.core → (left : Leftover) → StopNow stores kind new left
    → (n : Machine) × ((n ≡ m) ⊎ MayGive m line n) × LeavesStore left n (old.durable.core.tables.next_tx + 1)

-- a line was read, behind which the run breaks off
pub record BreaksOff {S D : Type 0} (stores : DiskKind S) (kind : DiskKind D) (h h' : JournaledHand S D) : Type 0 where
  pub line : List ℕ
  pub came : CameLine h.input h'.input line
  pub survives : SurvivesLine stores kind (scene_of h) (scene_of h') (line_of line)

-- a line was read, at which the journal's disk failed
pub record FailsAt {D : Type 0} (kind : DiskKind D) (i i' : Input) (disk disk' : D) : Type 0 where
  pub line : List ℕ
  pub came : CameLine i i' line
  pub rose : Rose (kind.view disk).faults (kind.view disk').faults

-- nothing was touched, or a line was read, behind which the run breaks off
abbrev pub PassBreaks : {S D : Type 0} → DiskKind S → DiskKind D → (h h' : JournaledHand S D) → Type 0
PassBreaks stores kind h h' = IsQuiet h h' ⊎ BreaksOff stores kind h h'
