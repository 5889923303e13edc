-- The records that a run adds to its journal.
use Rattle.std.specs.Prelude.{◌≡◌, ◌+◌, ℕ, Bool, true, false, if◌then◌else◌, List, [], ◌∷◌, ◌++◌, Option, Some, MatchOption, Result, Ok, Err, ⊤}
use Rattle.wtf_dev.specs.Disk.{DiskKind}
use Rattle.wtf_dev.specs.Streams.{SinkView}
use Rattle.wtf_journal.specs.Follows.{SyncedState}
use Rattle.wtf_journal.specs.Held.{is_changes}
use Rattle.wtf_journal.specs.Records.{RestsAt}
use Rattle.wtf_model.specs.declared.answer.Answer.{Answer}
use Rattle.wtf_model.specs.declared.answer.Answer.TheVariants as answer
use Rattle.wtf_model.specs.declared.event.Event.TheVariants as event
use Rattle.wtf_model.specs.Lines.{Line}
use Rattle.wtf_model.specs.Tree.{Tree}
use Rattle.wtf_serve.specs.declared.service.Stop.{Stop}
use Rattle.wtf_serve.specs.declared.service.Stop.TheVariants as stop
use Rattle.wtf_serve.specs.Engines.{Step}
use Rattle.wtf_serve.specs.Logs.{Log, last}
use Rattle.wtf_serve.specs.Openings.{Opening}
use Rattle.wtf_serve.specs.Passes.{PassCame, PassIs}
use Rattle.wtf_serve.specs.Scripts.{line_of}
use Rattle.wtf_serve.specs.Turns.{TurnIs, turn_answer}
use Rattle.wtf_journaled.specs.Engine.{JournaledHand, JournaledState, journaled_engine}

-- how many of these answers are `saved`
abbrev pub is_saved : Answer → Bool
is_saved (answer.Saved n) = true
is_saved a = false

abbrev pub saved_count : List Answer → ℕ
saved_count [] = 0
saved_count (a ∷ answers) = (if is_saved a then 1 else 0) + saved_count answers

-- how many of these records are changes, and how many are images: a record is one or the other
abbrev pub change_count : List (List ℕ) → ℕ
change_count [] = 0
change_count (body ∷ bodies) = (if is_changes body then 1 else 0) + change_count bodies

abbrev pub image_count : List (List ℕ) → ℕ
image_count [] = 0
image_count (body ∷ bodies) = (if is_changes body then 0 else 1) + image_count bodies

-- The records that a run of these lines adds to those that the journal has before it, and which it has behind it: an image for each line that answered
-- `saved`, and changes for each install. So nothing is saved at its end.
pub record AddedRecords {D : Type 0} (kind : DiskKind D) (before after : D) (opening : Opening) (t : Tree) (log : Log) : Type 0 where
  pub end : ℕ
  pub bodies : List (List ℕ)
  pub begun : RestsAt kind before end bodies
  pub more : List (List ℕ)
  pub last_end : ℕ
  pub rests : RestsAt kind after last_end (bodies ++ more)
  pub images : image_count more ≡ saved_count log.answers
  pub changes : change_count more + opening.number ≡ (last opening t log).number

-- the line is a save that was answered `saved`
abbrev pub has_saved : Line → Answer → Bool
has_saved (Ok event.Save) (answer.Saved n) = true
has_saved line a = false

-- what a line adds that was answered, behind all records that the journal has
pub record LineAdds {D : Type 0} (kind : DiskKind D) (old new : JournaledState D) (line : Line) (a : Answer) : Type 0 where
  pub more : List (List ℕ)
  pub rests : (kind.view old.disk).tells ≡ true → (bodies : List (List ℕ)) → RestsAt kind old.disk old.durable.journal.end bodies
      → RestsAt kind new.disk new.durable.journal.end (bodies ++ more)
  pub images : image_count more ≡ (if has_saved line a then 1 else 0)
  pub changes : change_count more + old.durable.core.tables.kv.number ≡ new.durable.core.tables.kv.number

-- what came of a line, and what that adds where it was answered
pub record TurnAdds {S D : Type 0} (stores : DiskKind S) (kind : DiskKind D) (t : Step (SyncedState S) (JournaledState D)) (line : Line)
    (sink sink' : SinkView) (result : Result (Unit {0}) Stop) : Type 0 where
  pub is : TurnIs (journaled_engine stores kind) t line sink sink' result
  pub adds : MatchOption (turn_answer (journaled_engine stores kind) t line sink sink' result is) ⊤ (LineAdds kind t.old t.new line)

-- what a line adds that was read, where its answer was written or cut
abbrev pub CameAdds : {S D : Type 0} → (stores : DiskKind S) (kind : DiskKind D) (h h' : JournaledHand S D) (result : Result (Option Bool) Stop)
    → PassCame (journaled_engine stores kind) h h' result → Type 0
CameAdds stores kind h h' (Ok (Some bad)) came = LineAdds kind h.state h'.state (line_of came.line) came.done.answer
CameAdds stores kind h h' (Err stop.Unwritten) came = LineAdds kind h.state h'.state (line_of came.line) came.cut.answer
CameAdds stores kind h h' result came = ⊤

-- what came of a pass, and that
pub record PassAdds {S D : Type 0} (stores : DiskKind S) (kind : DiskKind D) (h h' : JournaledHand S D) (result : Result (Option Bool) Stop) : Type 0 where
  pub is : PassIs (journaled_engine stores kind) h h' result
  pub adds : CameAdds stores kind h h' result is.came
