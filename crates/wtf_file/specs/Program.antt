-- What a task writes and why it stops, how the program ends, and the line that it writes for each status.
use Rattle.std.specs.Prelude.{◌≡◌, ◌⊎◌, ◌<◌, ◌==◌, if◌then◌else◌, ℕ, List, length, Option, Some, None, Result, Ok, Err, codes}
use Rattle.wtf_dev.specs.Counts.{Rose}
use Rattle.wtf_dev.specs.Streams.{SourceView, SinkView}
use Rattle.wtf_carry.specs.declared.TheConstants.{MOST_BYTES}
use Rattle.wtf_carry.specs.declared.stop.Stop.{Stop}
use Rattle.wtf_carry.specs.declared.stop.Stop.TheVariants as stop
use Rattle.wtf_carry.specs.Puts.{Puts}
use Rattle.wtf_carry.specs.Reads.{ReadsWholeFile}
use Rattle.wtf_carry.specs.Gets.{Gets, NoneGets}
use Rattle.wtf_script.specs.ScriptLines.{lines_of}
use Rattle.wtf_script.specs.declared.limits.TheConstants.{SCRIPT_BYTES}
use Rattle.wtf_file.specs.declared.task.Task.{Task}
use Rattle.wtf_file.specs.declared.task.Task.TheVariants as task

-- what is written for the bytes `all`, behind what the sink had
abbrev pub Does : Task → List ℕ → List ℕ → Option (List ℕ) → Type 0
Does (task.Put path) all old new = Puts path all old new
Does (task.Reads path len) all old new = ReadsWholeFile path len old new
Does (task.Get len) all old new = Gets len (lines_of all) old new

-- what the source and the sink show
pub record Streams : Type 0 where
  pub source : SourceView
  pub sink : SinkView

abbrev pub streams : SourceView → SinkView → Streams
streams source sink = record { source = source; sink = sink }

-- where the source tells, this is so of the bytes that it has
abbrev pub WhereTold : Streams → (List ℕ → Type 0) → Type 0
WhereTold s P = (all : List ℕ) → s.source.rest ≡ Some all → P all

-- where the sink tells too, this is so of those bytes, and of what the sink took
abbrev pub WhereBothTell : Streams → (List ℕ → List ℕ → Type 0) → Type 0
WhereBothTell s P = (all taken : List ℕ) → s.source.rest ≡ Some all → s.sink.taken ≡ Some taken → P all taken

-- a file, or the answers to the reads of one, have more bytes than they may
abbrev pub IsTooLong : Task → Streams → Type 0
IsTooLong (task.Put path) old = WhereBothTell old (λ all taken. MOST_BYTES < length all)
IsTooLong (task.Reads path len) old = ⊥
IsTooLong (task.Get len) old = WhereTold old (λ all. SCRIPT_BYTES < length all)

-- the bytes are no answers to the reads of a file of the length that was asked for
abbrev pub AreWrong : Task → Streams → Type 0
AreWrong (task.Put path) old = ⊥
AreWrong (task.Reads path len) old = ⊥
AreWrong (task.Get len) old = WhereTold old (λ all. NoneGets len (lines_of all))

-- what a task came to over these streams: it wrote what it is to write, or was stopped for this reason
abbrev pub IsOutcome : Task → Result (Unit {0}) Stop → Streams → Streams → Type 0
IsOutcome t (Ok u) old new = WhereBothTell old (λ all taken. Does t all taken new.sink.taken)
IsOutcome t (Err stop.Wrong) old new = AreWrong t old
IsOutcome t (Err stop.TooLong) old new = IsTooLong t old
IsOutcome t (Err stop.Unread) old new = Rose old.source.faults new.source.faults
IsOutcome t (Err stop.Unwritten) old new = Rose old.sink.faults new.sink.faults
IsOutcome t (Err stop.Memory) old new = Unit {0}

-- the status of a task that ended so
abbrev pub end_status : Result (Unit {0}) Stop → ℕ
end_status (Ok u) = 0
end_status (Err stop.Wrong) = 1
end_status (Err stop.Unread) = 3
end_status (Err stop.Unwritten) = 4
end_status (Err stop.Memory) = 7
end_status (Err stop.TooLong) = 9

-- What the sink held back was brought out where a task had ended with the status `found`, and no byte was added: the status is the same, or
-- 4 where the sink failed then.
pub record IsBroughtOut (found status : ℕ) (old new : SinkView) : Type 0 where
  pub taken : (bytes : List ℕ) → old.taken ≡ Some bytes → new.taken ≡ Some bytes
  pub ended : ((status ≡ found) × (new.faults ≡ old.faults)) ⊎ ((status ≡ 4) × Rose old.faults new.faults)

-- a task that ended with this status once what its sink held back was brought out
pub record IsRunOver (t : Task) (status : ℕ) (old new : Streams) : Type 0 where
  pub done : Result (Unit {0}) Stop
  pub sink : SinkView
  pub outcome : IsOutcome t done old (streams new.source sink)
  pub out : IsBroughtOut (end_status done) status sink new.sink

-- How the program ended where its words ask for this: for nothing with 2 and without a read or a write, or for want of memory
abbrev pub IsCarryOver : Option Task → ℕ → Streams → Streams → Type 0
IsCarryOver None status old new = ((status ≡ 2) ⊎ (status ≡ 7)) × (new ≡ old)
IsCarryOver (Some t) status old new = IsRunOver t status old new

-- the line on standard error for a status, without its line feed
abbrev pub status_line : ℕ → Option (List ℕ)
status_line status =
    if status == 1 then Some (codes "wtf_file: wrong answers") else (
    if status == 2 then Some (codes "wtf_file: words refused: put PATH, reads PATH LEN or get LEN") else (
    if status == 3 then Some (codes "wtf_file: reading failed") else (
    if status == 4 then Some (codes "wtf_file: writing failed") else (
    if status == 7 then Some (codes "wtf_file: out of memory") else (
    if status == 9 then Some (codes "wtf_file: too long") else None)))))

-- the statuses that the program ends with
abbrev pub IsFileStatus : ℕ → Type 0
IsFileStatus status = (status ≡ 0) ⊎ (status ≡ 1) ⊎ (status ≡ 2) ⊎ (status ≡ 3) ⊎ (status ≡ 4) ⊎ (status ≡ 7) ⊎ (status ≡ 9)
