-- A script with a quiet ending: it saves while nothing is open, and from there on has only scans, pieces and collections, by which two scans are
-- done, and behind them a server is collected.
use Rattle.std.specs.Prelude.{◌≡◌, ◌⊎◌, ◌<◌, ℕ, true, List, [], ◌∷◌, ◌++◌, length, Option, None, Some, Ok, Err}
use Rattle.wtf_base.specs.Places.{Place}
use Rattle.wtf_dev.specs.Store.{Range}
use Rattle.wtf_model.specs.declared.answer.Answer.{Answer}
use Rattle.wtf_model.specs.declared.answer.Answer.TheVariants as answer
use Rattle.wtf_model.specs.declared.event.Event.TheVariants as event
use Rattle.wtf_model.specs.Lines.{Line, machine_after}
use Rattle.wtf_model.specs.Tree.{Tree}
use Rattle.wtf_meta.specs.Contents.{Told}
use Rattle.wtf_gc.specs.Frees.{lie_in}
use Rattle.wtf_core.specs.Quiet.{ImageNames, IsIdle, Stage, Saved, ScannedTwice, next_stage}
use Rattle.wtf_serve.specs.Logs.{Log, asked}
use Rattle.wtf_serve.specs.Openings.{Opening, first}

-- how far such an ending has come with a line; one that asks nothing breaks it
abbrev pub line_stage : Stage → Line → Answer → Option Stage
line_stage s (Ok e) a = next_stage s e a
line_stage s (Err bad) a = None

-- and with lines, by their answers
abbrev pub lines_stage : Option Stage → List Line → List Answer → Option Stage
lines_stage (Some s) [] [] = Some s
lines_stage (Some s) (line ∷ lines) (a ∷ answers) = lines_stage (line_stage s line a) lines answers
lines_stage s lines answers = None

-- A run from this tree has such an ending for server k: behind the lines before the save no transaction and no job of the machine is open, those
-- from there on do two scans, then the server is collected, and those behind that break no quiet ending.
pub record HasQuietEnding (opening : Opening) (t : Tree) (log : Log) (k : ℕ) : Type 0 where
  pub front : List Line
  pub scans : List Line
  pub rest : List Line
  pub answers : List Answer
  pub scanned : List Answer
  pub others : List Answer
  pub saved : ℕ
  pub freed : ℕ
  pub last : Stage
  pub asked_are : asked log ≡ front ++ ((Ok event.Save ∷ scans) ++ Ok (event.Collect k) ∷ rest)
  pub answers_are : log.answers ≡ answers ++ ((answer.Saved saved ∷ scanned) ++ answer.Collected freed ∷ others)
  pub each : length answers ≡ length front
  pub idle : IsIdle (machine_after (first opening t) front answers)
  pub twice : lines_stage (Some Saved) scans scanned ≡ Some ScannedTwice
  pub goes_on : lines_stage (Some ScannedTwice) rest others ≡ Some last

-- each byte of server k below its file's length lies in a range that was punched, or is named by the image
abbrev pub AreUsed : Told → (ℕ → ℕ → ℕ) → List (ℕ × Range) → List ℕ → ℕ → Type 0
AreUsed told size punched bytes k =
    (p : Place) → p.server ≡ k → p.file < 8 → p.at < size k p.file → (lie_in punched p ≡ true) ⊎ ImageNames told bytes p
