-- What a run promises that was opened: of its lines, of how it ends, and of what it leaves on the keeper.
use Rattle.std.specs.Prelude.{◌≡◌, ◌≢◌, ◌↔◌, ◌⊎◌, ◌<◌, ◌≤◌, ◌+◌, ◌-◌, ◌^◌, ◌==◌, ◌&&◌, ℕ, Bool, true, false, min, if◌then◌else◌, List, [], ◌∷◌, ◌++◌, length}
use Rattle.std.specs.Prelude.{Option, Some, Ok}
use Rattle.wtf_base.specs.declared.settings.Settings.{Settings}
use Rattle.wtf_base.specs.Places.{Place}
use Rattle.wtf_dev.specs.Counts.{Rose}
use Rattle.wtf_dev.specs.Store.{Range, StoreKind}
use Rattle.wtf_dev.specs.Streams.{SourceView, SinkView}
use Rattle.wtf_dev.specs.Each.{EachFollows}
use Rattle.wtf_dev.specs.Keep.{KeeperView}
use Rattle.wtf_dev.specs.Sums.{TellsAll}
use Rattle.wtf_replica.specs.Bytes.{byte_at}
use Rattle.wtf_replica.specs.Outs.{SameLengths}
use Rattle.wtf_replica.specs.Spans.{span}
use Rattle.wtf_model.specs.declared.answer.Answer.{Answer}
use Rattle.wtf_model.specs.declared.answer.Answer.TheVariants as answer
use Rattle.wtf_model.specs.declared.event.Event.TheVariants as event
use Rattle.wtf_model.specs.Tree.{Tree}
use Rattle.wtf_model.specs.Machines.{Machine}
use Rattle.wtf_model.specs.Steps.{Accepts}
use Rattle.wtf_model.specs.Lines.{MayLine, Along, after_line, events_of, answers_to}
use Rattle.wtf_model.specs.Servers.{none_down, AlongDowns, is_device_fault, is_device_fault_of_run, count_along, IsAllUp}
use Rattle.wtf_meta.specs.Contents.{Told}
use Rattle.wtf_gc.specs.Frees.{AreApart, lie_in}
use Rattle.wtf_image.specs.Rules.{size_in}
use Rattle.wtf_core.specs.Pictured.{IsImageOfTree, IsImageOfOne, IsImageWith, IsTakenFor}
use Rattle.wtf_core.specs.Telling.{stores_of}
use Rattle.wtf_script.specs.declared.limits.TheConstants.{SCRIPT_BYTES}
use Rattle.wtf_script.specs.ScriptLines.{lines_of}
use Rattle.wtf_serve.specs.declared.service.Stop.{Stop}
use Rattle.wtf_serve.specs.declared.service.Stop.TheVariants as stop
use Rattle.wtf_serve.specs.Scripts.{line_of, has_bad, IsEndStatus, IsWholeStatus, end_status}
use Rattle.wtf_serve.specs.Openings.{Opening, IsTakenOver, StartsFrom, first}
use Rattle.wtf_serve.specs.Logs.{Log, asked, last, last_downs, output, fault_count, IsUnspilledLog}
use Rattle.wtf_serve.specs.Quiet.{HasQuietEnding, AreUsed}
use Rattle.wtf_serve.specs.Runs.{IsStill, AreStoresStill, Ran}
use Rattle.wtf_serve.specs.Stocks.{Stock, RoseBy, IsSaveFault, IsTelling}
use Rattle.wtf_serve.specs.Traces.{HasRead, HasWritten}

-- the devices of a run: its source, its sink, and its stores with its keeper
pub record Devices (S : Type 0) : Type 0 where
  pub source : SourceView
  pub sink : SinkView
  pub stock : Stock S

abbrev pub devices : {S : Type 0} → SourceView → SinkView → List S → KeeperView → Devices S
devices source sink shelf keeper = record { source = source; sink = sink; stock = record { shelf = shelf; keeper = keeper } }

-- no device failed in a run, as far as the counts of faults tell
pub record AreStill {S : Type 0} (kind : StoreKind S) (old new : Devices S) : Type 0 where
  pub source_is : IsStill old.source.faults new.source.faults
  pub sink_is : IsStill old.sink.faults new.sink.faults
  pub stores : AreStoresStill kind old.stock.shelf new.stock.shelf
  pub keeper : IsStill old.stock.keeper.faults new.stock.keeper.faults

-- the statuses that the run of a script ends with
abbrev pub IsServedStatus : ℕ → Type 0
IsServedStatus status = IsWholeStatus status ⊎ (status ≡ 2) ⊎ (status ≡ 3) ⊎ (status ≡ 4) ⊎ (status ≡ 7) ⊎ (status ≡ 9)

-- and where it ends at once, but for want of memory
abbrev pub IsEarlyStatus : ℕ → Type 0
IsEarlyStatus status = (status ≡ 2) ⊎ (status ≡ 3) ⊎ (status ≡ 4) ⊎ (status ≡ 9)

abbrev pub stop_status : Stop → ℕ
stop_status stop.Unread = 3
stop_status stop.Unwritten = 4
stop_status stop.Memory = 7
stop_status stop.TooMuch = 9

-- The keeper holds what it held, as far as it is told, and nothing was handed to it.
pub record IsKeeperKept (handed : List (List ℕ) → Type 0) (old new : KeeperView) : Type 0 where
  pub held : (bytes : List ℕ) → old.held ≡ Some bytes → new.held ≡ Some bytes
  pub nothing : handed []

-- A run that ended before its first line was written: with few stores, for want of memory, or as the sink failed. Nothing
-- was read, no store was touched, nothing was handed to the keeper, and only where the sink failed anything was written.
pub record IsUnstarted {S : Type 0} (handed : List (List ℕ) → Type 0) (status : ℕ) (lines : List (List ℕ))
    (old new : Devices S) : Type 0 where
  pub status_is : (status ≡ 2) ⊎ (status ≡ 4) ⊎ (status ≡ 7)
  pub none : lines ≡ []
  pub source_is : new.source ≡ old.source
  pub shelf_is : new.stock.shelf ≡ old.stock.shelf
  pub kept : IsKeeperKept handed old.stock.keeper new.stock.keeper
  pub sink_is : status ≢ 4 → new.sink ≡ old.sink

-- how many faults the closing save adds to those of the lines: one, where no server was down
abbrev pub closing_faults : Settings → ℕ → (ℕ → Bool) → ℕ
closing_faults settings status down = if (status == 5) && is_device_fault settings down answer.FaultSave then 1 else 0

-- the script has this line behind these
abbrev pub IsNextLine : Option (List ℕ) → List (List ℕ) → List ℕ → Type 0
IsNextLine script lines line = (all : List ℕ) → script ≡ Some all → (more : List (List ℕ)) × (lines_of all ≡ lines ++ line ∷ more)

-- The next line of the script behind these asks for a collection, and these ranges lie on its server and share no byte.
pub record IsOfCollect (script : Option (List ℕ)) (lines : List (List ℕ)) (ranges : List (ℕ × Range)) : Type 0 where
  pub line : List ℕ
  pub next : IsNextLine script lines line
  pub server : ℕ
  pub asks : line_of line ≡ Ok (event.Collect server)
  pub apart : AreApart ranges
  pub there : (p : Place) → lie_in ranges p ≡ true → p.server ≡ server

-- the next line of the script behind these was answered, and the bytes are the image of a tree that the machine may have
-- saved then
pub record IsOfNext (told : Told) (m : Machine) (script : Option (List ℕ)) (lines : List (List ℕ)) (bytes : List ℕ)
    : Type 0 where
  pub line : List ℕ
  pub next : IsNextLine script lines line
  pub answer : Answer
  pub may : MayLine m (line_of line) answer
  pub image : IsImageOfOne told bytes (after_line m (line_of line) answer).may_be_saved

-- The bytes that a run leaves on the keeper, by its status: the image of the tree behind all lines; or, where the closing
-- save failed, also of one that may have been saved before; or, where it ended at once, one of the latter. For want of memory
-- it may be that of the line for whose answer there was none.
pub record IsLeft (told : Told) (m : Machine) (script : Option (List ℕ)) (lines : List (List ℕ)) (status : ℕ)
    (bytes : List ℕ) : Type 0 where
  pub saved : IsEndStatus status → IsImageOfTree told bytes m.now
  pub failed : status ≡ 5 → IsImageOfOne told bytes (m.may_be_saved ++ m.now ∷ [])
  pub early : IsEarlyStatus status → IsImageOfOne told bytes m.may_be_saved
  pub memory : status ≡ 7 → IsImageOfOne told bytes m.may_be_saved ⊎ IsOfNext told m script lines bytes

-- the image of a run: of this number of installs, under the run's settings, and of no more transactions than lines began after
-- the opening
abbrev pub IsRunImage : (ℕ → ℕ → ℕ) → Opening → ℕ → List (List ℕ) → List ℕ → Type 0
IsRunImage size opening number lines bytes =
    (next : ℕ) × (next ≤ opening.next_tx + length lines) × IsImageWith size opening.settings number next bytes

-- The next run can begin with the bytes that a run leaves on the keeper: they break no rule of images over the stores as they
-- are left, whose files have these sizes. Where the closing save was answered they are the image of the number of installs behind
-- all lines; else they are no byte, or an image of that number or of an earlier one. Status 7 may come behind one line more.
pub record IsNext (size : ℕ → ℕ → ℕ) (opening : Opening) (m : Machine) (lines : List (List ℕ)) (status : ℕ) (bytes : List ℕ)
    : Type 0 where
  pub saved : IsEndStatus status → IsRunImage size opening m.number lines bytes
  pub taken : status ≢ 7 → IsTakenFor size opening.settings m.number (opening.next_tx + length lines) bytes
  pub memory : status ≡ 7 → IsTakenFor size opening.settings (m.number + 1) (opening.next_tx + length lines + 1) bytes

-- Where stores and keeper tell, and the numbers of the image leave room for the script's: P holds of the tree that the run
-- starts from, over what is told, and of the bytes that it leaves on the keeper.
abbrev pub LeavesSuch : {S : Type 0} → StoreKind S → Told → Opening → Devices S → Devices S → (Tree → List ℕ → Type 0) → Type 0
LeavesSuch kind told opening old new P =
    TellsAll kind old.stock.shelf → IsTelling old.stock.keeper opening.bytes → opening.number ≤ 2 ^ 61 → opening.next_tx ≤ 2 ^ 61
    → (t : Tree) → StartsFrom told opening.bytes t → (bytes : List ℕ) → new.stock.keeper.held ≡ Some bytes → P t bytes

-- A run that was opened, with the devices before and after it; `handed` says which images were handed to the keeper
pub record Served {S : Type 0} (kind : StoreKind S) (handed : List (List ℕ) → Type 0) (opening : Opening) (status : ℕ)
    (old new : Devices S) : Type 0 where
  -- the lines that were answered, in order, with their answers; and whether the first line of the output was written
  pub log : Log
  pub started : Bool
  -- how many bytes of the script came
  pub taken : ℕ
  -- the stores and the keeper when the last of the answers was given: those after the run, unless it ended with the closing
  -- save, or with status 7
  pub mid : Stock S
  pub ran : Ran kind opening log old.stock mid
  -- what a last line punched that was answered, and no memory was found for its text: a collection alone may have
  pub rest : List (ℕ × Range)
  pub rest_none : status ≢ 7 → rest ≡ []
  pub rest_line : (rest ≡ []) ⊎ IsOfCollect old.source.rest log.lines rest
  pub rest_follows : EachFollows kind mid.shelf new.stock.shelf rest
  pub at_end : IsEarlyStatus status → mid ≡ new.stock
  -- the closing save adds no byte
  pub rest_adds : IsWholeStatus status → SameLengths kind mid.shelf new.stock.shelf
  -- a run ends before its first line is written with the statuses 2, 4 and 7 alone
  pub unstarted : started ≡ false → IsUnstarted handed status log.lines old new
  -- the image is refused for no rule where a line was written, or was to be
  pub sound : (started ≡ true) ⊎ (status ≡ 4) → IsTakenOver (size_in kind old.stock.shelf) opening.bytes
  pub read : (script : List ℕ) → old.source.rest ≡ Some script → HasRead script new.source.rest status log.lines
  pub wrote : (text : List ℕ) → old.sink.taken ≡ Some text → HasWritten opening started status log.answers text new.sink.taken
  -- status 9 comes exactly where more than 1,073,741,824 bytes came
  pub given : old.source.given ≤ 2 ^ 64 - 1 → new.source.given ≡ min (old.source.given + taken) (2 ^ 64 - 1)
  pub limit : (status ≡ 9) ↔ (SCRIPT_BYTES < taken)
  pub counted : (script left : List ℕ) → old.source.rest ≡ Some script → new.source.rest ≡ Some left
      → length script ≡ length left + taken
  -- the statuses, and the causes of 2, 3, 4 and 5
  pub statuses : IsServedStatus status
  -- where all was saved at the end of the script the status is 1 exactly where a line asked nothing
  pub ended : IsEndStatus status → status ≡ end_status (has_bad (asked log))
  pub few_stores : (status ≡ 2) ↔ (length old.stock.shelf < opening.settings.servers)
  -- with status 2 nothing is read, and nothing is written
  pub unread : status ≡ 2 → started ≡ false
  pub source_cause : status ≡ 3 → Rose old.source.faults new.source.faults
  pub sink_cause : status ≡ 4 → Rose old.sink.faults new.sink.faults
  -- the closing save alone: a server was down, or its store or the keeper failed
  pub save_cause : status ≡ 5
      → IsSaveFault kind (span (last_downs log) mid.shelf new.stock.shelf) opening.settings.servers mid.keeper new.stock.keeper
  pub source_faults : old.source.faults ≤ new.source.faults
  pub sink_faults : old.sink.faults ≤ new.sink.faults
  -- with another status than 4 no write failed
  pub sink_still : status ≢ 4 → new.sink.faults ≡ old.sink.faults
  -- over the whole run: each fault of a line and of the closing save that only a store or the keeper can have caused raised
  -- a count
  pub faults : RoseBy kind old.stock new.stock
      (count_along (is_device_fault opening.settings) none_down (asked log) log.answers
      + closing_faults opening.settings status (last_downs log))
  -- and, where the keeper held nothing, and no region was spilled or the stores tell their content, with each read that failed while
  -- fewer servers were down than a slice has copies
  pub faults_of_run : IsUnspilledLog log ⊎ TellsAll kind old.stock.shelf → opening.bytes ≡ [] → RoseBy kind old.stock new.stock
      (count_along (is_device_fault_of_run opening.settings) none_down (asked log) log.answers
      + closing_faults opening.settings status (last_downs log))
  -- no more is punched than what the lines did
  pub follows_on : EachFollows kind old.stock.shelf new.stock.shelf (ran.punched ++ rest)
  -- where there are stores enough, no device failed, and no server was down at any line or at the end, no line answers a
  -- fault, and the status is 0, 1, 7 or 9
  pub complete : opening.settings.servers ≤ length old.stock.shelf → AreStill kind old new
      → AlongDowns IsAllUp none_down (asked log) log.answers → ((k : ℕ) → last_downs log k ≡ false)
      → (fault_count log.answers ≡ 0) × (IsEndStatus status ⊎ (status ≡ 7) ⊎ (status ≡ 9))
  -- the run leaves on the keeper the image of what the lines made of the tree that it started from
  pub left : started ≡ true → LeavesSuch kind (byte_at kind old.stock.shelf) opening old new
      (λ t bytes. IsLeft (byte_at kind new.stock.shelf) (last opening t log) old.source.rest log.lines status bytes)
  -- and where that tree stood over the stores of the settings' servers by themselves, what is left stands over these, as
  -- `Ran.undamaged_from` asks of the next run
  pub left_within : started ≡ true → LeavesSuch kind (byte_at kind (stores_of opening.settings old.stock.shelf)) opening old new
      (λ t bytes. IsLeft (byte_at kind (stores_of opening.settings new.stock.shelf)) (last opening t log) old.source.rest log.lines status bytes)
  -- and the next run can begin with that
  pub next : started ≡ true → LeavesSuch kind (byte_at kind old.stock.shelf) opening old new
      (λ t bytes. IsNext (size_in kind new.stock.shelf) opening (last opening t log) log.lines status bytes)
  -- where the script has a quiet ending for a server each byte of that server was punched or is named by the image
  pub quiet : (k : ℕ) → IsEndStatus status → LeavesSuch kind (byte_at kind old.stock.shelf) opening old new
      (λ t bytes. HasQuietEnding opening t log k → AreUsed (byte_at kind new.stock.shelf) (size_in kind new.stock.shelf) ran.punched bytes k)

-- The headline of a run that read its script to its end, over devices that tell what they hold: each line is answered, the
-- machine accepts the answers from the tree that the run starts with, and a retry comes only where others have changed what was
-- read; the answers are what is written, behind the first line, and the keeper holds the image of the tree behind all of them,
-- with which the next run can begin over the stores as they are left, whose files have these sizes.
pub record IsTold (told : Told) (size : ℕ → ℕ → ℕ) (opening : Opening) (t : Tree) (script written kept : List ℕ) : Type 0 where
  pub log : Log
  pub lines_are : log.lines ≡ lines_of script
  pub accepts : Accepts (first opening t) (events_of (asked log)) (answers_to (asked log) log.answers)
  pub accepted : Along MayLine (first opening t) (asked log) log.answers
  pub wrote : written ≡ output opening log.answers
  pub saved : IsImageOfTree told kept (last opening t log).now
  pub next : IsRunImage size opening (last opening t log).number log.lines kept
