-- How a run ends whose journal was not opened.
use Rattle.std.specs.Prelude.{◌≡◌, ◌≢◌, ◌⊎◌, ◌∷◌, ◌++◌, ℕ, List, [], Some, codes}
use Rattle.wtf_dev.specs.Counts.{Rose}
use Rattle.wtf_dev.specs.Streams.{SinkView}
use Rattle.wtf_script.specs.ScriptLines.{line_feed}
use Rattle.wtf_serve.specs.declared.opening.NotOpened.TheVariants.{Image}
use Rattle.wtf_serve.specs.Beginnings.{EndsBy}
use Rattle.wtf_serve.specs.Turns.{WroteFront}
use Rattle.wtf_journal.specs.declared.fault.JournalFault.TheVariants as fault
use Rattle.wtf_durable.specs.declared.fault.Unopened.{Unopened}
use Rattle.wtf_durable.specs.declared.fault.Unopened.TheVariants as unopened

-- the line of a journal that is none
abbrev pub journal_line : List ℕ
journal_line = codes "journal refused" ++ line_feed ∷ []

-- That line is written; or, with status 4, a front of it, as the sink failed.
pub record RefusesJournal (status : ℕ) (old new : SinkView) : Type 0 where
  pub status_is : (status ≡ 6) ⊎ (status ≡ 4)
  pub wrote : status ≡ 6 → (text : List ℕ) → old.taken ≡ Some text → new.taken ≡ Some (text ++ journal_line)
  pub cut : status ≡ 4 → (text : List ℕ) → old.taken ≡ Some text → WroteFront text journal_line new.taken
  pub cause : status ≡ 4 → Rose old.faults new.faults
  pub still : status ≢ 4 → new.faults ≡ old.faults

-- the run ends with this status, and nothing is written
abbrev pub EndsMute : ℕ → ℕ → SinkView → SinkView → Type 0
EndsMute wanted status old new = (status ≡ wanted) × (new ≡ old)

-- how it ends, by why the journal was not opened
abbrev pub EndsUnopened : Unopened → ℕ → SinkView → SinkView → Type 0
EndsUnopened (unopened.Journal fault.Failed) status old new = EndsMute 8 status old new
EndsUnopened (unopened.Journal (fault.NotAJournal n)) status old new = RefusesJournal status old new
EndsUnopened (unopened.Journal fault.Memory) status old new = EndsMute 7 status old new
EndsUnopened (unopened.Image why) status old new = EndsBy (Image why) status old new
EndsUnopened unopened.Small status old new = EndsMute 2 status old new
EndsUnopened unopened.Save status old new = EndsMute 5 status old new
EndsUnopened unopened.Memory status old new = EndsMute 7 status old new
