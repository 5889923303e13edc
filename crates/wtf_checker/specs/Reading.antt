-- What is read of a script, line by line.
use Rattle.std.specs.Prelude.{◌≡◌, ◌⊎◌, ◌↔◌, ◌<◌, ◌≤◌, ℕ, Bool, true, false, List, [], ◌∷◌, ◌++◌, Option, Some, None, Result, Ok, Err, All}
use Rattle.wtf_dev.specs.Counts.{Rose}
use Rattle.wtf_dev.specs.Streams.{SourceView}
use Rattle.wtf_model.specs.declared.event.Event.{Event}
use Rattle.wtf_model.specs.declared.answer.Kind.{Kind}
use Rattle.wtf_model.specs.Form.{IsFormEvent}
use Rattle.wtf_script.specs.declared.limits.TheConstants.{SCRIPT_BYTES}
use Rattle.wtf_script.specs.ScriptLines.{lines_of, fed, HasNoFeed}
use Rattle.wtf_script.specs.Reading.{Held, work}
use Rattle.wtf_script.specs.Grammar.{event_of}
use Rattle.wtf_script.specs.declared.lines.Line.{Line}
use Rattle.wtf_script.specs.declared.lines.Line.TheVariants as line
use Rattle.wtf_script.specs.declared.error.ReadError.{ReadError}
use Rattle.wtf_script.specs.declared.error.ReadError.TheVariants as read_error
use Rattle.wtf_model.specs.declared.answer.Kind.TheVariants as kind
use Rattle.wtf_checker.specs.declared.stop.Stop.{Stop}
use Rattle.wtf_checker.specs.declared.stop.Stop.TheVariants as stop
use Rattle.wtf_checker.specs.Sources.{Gave}

-- the lines came, and the reader holds the next bytes; when it has seen the end, these were all
pub record Told (script : List ℕ) (left : Option (List ℕ)) (held : Held) (lines : List (List ℕ)) : Type 0 where
  pub rest : List ℕ
  pub left_is : left ≡ Some rest
  pub going : held.ended ≡ false → (script ≡ fed lines ++ (held.bytes ++ rest)) × All HasNoFeed lines
  pub over : held.ended ≡ true → (lines_of script ≡ lines) × (held.bytes ++ rest ≡ [])

-- these are the lines that were read of a source since it was `start`
pub record IsReading (start now : SourceView) (held : Held) (lines : List (List ℕ)) : Type 0 where
  pub gave : Gave start now held.count
  pub told : (script : List ℕ) → start.rest ≡ Some script → Told script now.rest held lines
  pub limit : held.count ≤ SCRIPT_BYTES

-- and there are no more
pub record IsRead (start now : SourceView) (held : Held) (lines : List (List ℕ)) : Type 0 where
  pub reading : IsReading start now held lines
  pub whole : (script : List ℕ) → start.rest ≡ Some script → (lines_of script ≡ lines) × (now.rest ≡ Some [])

-- why a script is not read on
pub record HasStopped (start now : SourceView) (held : Held) (why : Stop) : Type 0 where
  pub gave : Gave start now held.count
  pub is : (why ≡ stop.Unread) ⊎ (why ≡ stop.TooMuch) ⊎ (why ≡ stop.Memory)
  pub cause : why ≡ stop.Unread → Rose start.faults now.faults
  pub limit : (why ≡ stop.TooMuch) ↔ (SCRIPT_BYTES < held.count)

-- a line more came, which asks this
pub record HasNext (start now : SourceView) (held : Held) (lines : List (List ℕ)) (asked : Result Event Kind) : Type 0 where
  pub line : List ℕ
  pub asks : event_of line ≡ asked
  pub reading : IsReading start now held (lines ++ line ∷ [])

-- what came of reading a line
abbrev pub Next : SourceView → SourceView → Held → List (List ℕ) → Result (Option (Result Event Kind)) Stop → Type 0
Next start now held lines (Ok (Some asked)) = HasNext start now held lines asked
Next start now held lines (Ok None) = IsRead start now held lines
Next start now held lines (Err why) = HasStopped start now held why

-- the event of a line that came is in form
abbrev pub IsFormAsked : Result Event Kind → Type 0
IsFormAsked (Ok e) = IsFormEvent e
IsFormAsked (Err k) = Unit {0}

abbrev pub IsFormNext : Result (Option (Result Event Kind)) Stop → Type 0
IsFormNext (Ok (Some asked)) = IsFormAsked asked
IsFormNext r = Unit {0}

-- a script is read on, or cannot be
abbrev pub ReadOn : {A : Type 0} → SourceView → SourceView → Held → Result A Stop → Type 0
ReadOn start now held (Ok x) = (lines : List (List ℕ)) × IsReading start now held lines
ReadOn start now held (Err why) = HasStopped start now held why

-- a script is read to its end, or cannot be
abbrev pub ReadAll : {A : Type 0} → SourceView → SourceView → Held → Result A Stop → Type 0
ReadAll start now held (Ok x) = (lines : List (List ℕ)) × IsRead start now held lines
ReadAll start now held (Err why) = HasStopped start now held why

-- a line that came leaves less to read
abbrev pub HasLess : Held → Held → Result (Option (Result Event Kind)) Stop → Type 0
HasLess old new (Ok (Some asked)) = work new < work old
HasLess old new r = Unit {0}

-- what a line that was read asks, and why none was read
abbrev pub Asks : Result (Option Line) ReadError → Result (Option (Result Event Kind)) Stop → Type 0
Asks (Ok (Some (line.Whole bytes))) (Ok (Some asked)) = event_of bytes ≡ asked
Asks (Ok (Some (line.Whole bytes))) (Err why) = why ≡ stop.Memory
Asks (Ok (Some line.Long)) (Ok (Some asked)) = asked ≡ Err kind.Long
Asks (Ok None) (Ok None) = Unit {0}
Asks (Err read_error.Failed) (Err stop.Unread) = Unit {0}
Asks (Err read_error.TooMuch) (Err stop.TooMuch) = Unit {0}
Asks (Err read_error.Memory) (Err stop.Memory) = Unit {0}
Asks got r = ⊥

-- whether there was a line
abbrev pub IsMore : Result (Option (Result Event Kind)) Stop → Result Bool Stop → Type 0
IsMore (Ok (Some asked)) r = r ≡ Ok true
IsMore (Ok None) r = r ≡ Ok false
IsMore (Err why) r = r ≡ Err why
