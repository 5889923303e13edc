-- What a check promises.
use Rattle.std.specs.Prelude.{◌≡◌, ◌≢◌, ◌⊎◌, ◌↔◌, ◌<◌, ◌≤◌, ℕ, List, [], ◌++◌, Option, Some, Result, Ok, Err}
use Rattle.wtf_dev.specs.Counts.{Rose}
use Rattle.wtf_dev.specs.Streams.{SourceView, SinkView}
use Rattle.wtf_script.specs.declared.limits.TheConstants.{SCRIPT_BYTES}
use Rattle.wtf_checker.specs.declared.stop.Stop.{Stop}
use Rattle.wtf_checker.specs.declared.stop.Stop.TheVariants as stop
use Rattle.wtf_checker.specs.declared.verdict.Verdict.{Verdict}
use Rattle.wtf_checker.specs.declared.verdict.Verdict.TheVariants as verdict
use Rattle.wtf_checker.specs.Lawful.{IsVerdict, verdict_line, IsFirstRefused}
use Rattle.wtf_checker.specs.Sources.{Gave}

-- the statuses of what stops a check
abbrev pub check_stop_status : Stop → ℕ
check_stop_status stop.Unread = 3
check_stop_status stop.Unwritten = 4
check_stop_status stop.Unanswered = 5
check_stop_status stop.Memory = 7
check_stop_status stop.TooMuch = 9

-- a front of a text was written, and no more
abbrev pub VerdictFront : List ℕ → List ℕ → Option (List ℕ) → Type 0
VerdictFront old text new = (front : List ℕ) × (back : List ℕ) × (text ≡ front ++ back) × (new ≡ Some (old ++ front))

-- all of a text was taken, or a front of it where the sink failed
abbrev pub VerdictTaken : {E : Type 0} → List ℕ → List ℕ → Option (List ℕ) → Result (Unit {0}) E → Type 0
VerdictTaken old text new (Ok u) = new ≡ Some (old ++ text)
VerdictTaken old text new (Err e) = VerdictFront old text new

-- both sources were read, or what stopped that had its cause
pub record HaveRead (script script' output output' : SourceView) (result : Result Verdict Stop) : Type 0 where
  pub script_taken : ℕ
  pub output_taken : ℕ
  pub script_gave : Gave script script' script_taken
  pub output_gave : Gave output output' output_taken
  pub limit : (result ≡ Err stop.TooMuch) ↔ ((SCRIPT_BYTES < script_taken) ⊎ (SCRIPT_BYTES < output_taken))
  pub script_cause : result ≡ Err stop.Unread → Rose script.faults script'.faults
  pub output_cause : result ≡ Err stop.Unanswered → Rose output.faults output'.faults
  pub read_alone : result ≢ Err stop.Unwritten
  pub judged : (v : Verdict) → result ≡ Ok v → (s o : List ℕ) → script.rest ≡ Some s → output.rest ≡ Some o
      → IsVerdict s o v × (script'.rest ≡ Some []) × (output'.rest ≡ Some [])

-- the status of a verdict
abbrev pub verdict_status : Verdict → ℕ
verdict_status (verdict.Lawful n) = 0
verdict_status (verdict.Refused k) = 1

-- the line of a verdict was written, or not
pub record WroteVerdict (v : Verdict) (sink sink' : SinkView) (status : ℕ) : Type 0 where
  pub status_is : (status ≡ verdict_status v) ⊎ (status ≡ 4) ⊎ (status ≡ 7)
  pub faults : sink.faults ≤ sink'.faults
  pub cause : status ≡ 4 → Rose sink.faults sink'.faults
  pub short : status ≡ 7 → sink' ≡ sink
  pub wrote : status ≡ verdict_status v → (text : List ℕ) → sink.taken ≡ Some text → sink'.taken ≡ Some (text ++ verdict_line v)
  pub cut : status ≡ 4 → (text : List ℕ) → sink.taken ≡ Some text → VerdictFront text (verdict_line v) sink'.taken

-- the script, the output that is checked, and where the verdict goes
pub record Streams : Type 0 where
  pub script : SourceView
  pub output : SourceView
  pub sink : SinkView

abbrev pub streams : SourceView → SourceView → SinkView → Streams
streams script output sink = record { script = script; output = output; sink = sink }

-- The verdict on a script and an output, where the sources tell their bytes and the sink what it took.
pub record HasJudged (old new : Streams) (script output text : List ℕ) (status : ℕ) : Type 0 where
  -- 0: lawful, and the line says so, with the number of the lines
  pub lawful : status ≡ 0 → (n : ℕ) × IsVerdict script output (verdict.Lawful n) × (new.sink.taken ≡ Some (text ++ verdict_line (verdict.Lawful n)))
  -- 1: the line names the first refused line
  pub refused : status ≡ 1 → (k : ℕ) × IsFirstRefused script output k × (new.sink.taken ≡ Some (text ++ verdict_line (verdict.Refused k)))
  -- then both were read to their end
  pub whole : (status ≡ 0) ⊎ (status ≡ 1) → (new.script.rest ≡ Some []) × (new.output.rest ≡ Some [])
  -- 4: a front of the line of the verdict
  pub cut : status ≡ 4 → (v : Verdict) × IsVerdict script output v × VerdictFront text (verdict_line v) new.sink.taken

-- the statuses
abbrev pub IsCheckStatus : ℕ → Type 0
IsCheckStatus s = (s ≡ 0) ⊎ (s ≡ 1) ⊎ (s ≡ 3) ⊎ (s ≡ 4) ⊎ (s ≡ 5) ⊎ (s ≡ 7) ⊎ (s ≡ 9)

-- A check that ended with this status.
pub record IsChecked (status : ℕ) (old new : Streams) : Type 0 where
  pub status_is : IsCheckStatus status
  -- how many bytes of the script and of the output came
  pub script_taken : ℕ
  pub output_taken : ℕ
  pub script_gave : Gave old.script new.script script_taken
  pub output_gave : Gave old.output new.output output_taken
  -- 9: exactly where more than 1,073,741,824 bytes came of one of them
  pub limit : (status ≡ 9) ↔ ((SCRIPT_BYTES < script_taken) ⊎ (SCRIPT_BYTES < output_taken))
  -- the causes of 3, 4 and 5
  pub script_cause : status ≡ 3 → Rose old.script.faults new.script.faults
  pub sink_cause : status ≡ 4 → Rose old.sink.faults new.sink.faults
  pub output_cause : status ≡ 5 → Rose old.output.faults new.output.faults
  pub sink_faults : old.sink.faults ≤ new.sink.faults
  -- nothing is written without a verdict, and for want of memory
  pub unwritten : (status ≡ 3) ⊎ (status ≡ 5) ⊎ (status ≡ 7) ⊎ (status ≡ 9) → new.sink ≡ old.sink
  pub judged : (script output text : List ℕ) → old.script.rest ≡ Some script → old.output.rest ≡ Some output → old.sink.taken ≡ Some text
      → HasJudged old new script output text status
