-- What the lines of a script ask, and the lines that are written.
use Rattle.std.specs.Prelude.{◌⊎◌, ◌≡◌, ℕ, Bool, is_err, if◌then◌else◌, List, [], ◌∷◌, ◌++◌, Result, Ok, Err}
use Rattle.std.specs.List.{list_any}
use Rattle.wtf_base.specs.declared.settings.Settings.{Settings}
use Rattle.wtf_model.specs.declared.event.Event.{Event}
use Rattle.wtf_model.specs.declared.answer.Kind.{Kind}
use Rattle.wtf_model.specs.declared.answer.Answer.{Answer}
use Rattle.wtf_model.specs.declared.answer.Answer.TheVariants as answer
use Rattle.wtf_model.specs.Lines.{Line}
use Rattle.wtf_script.specs.ScriptLines.{line_feed}
use Rattle.wtf_script.specs.Grammar.{event_of}
use Rattle.wtf_print.specs.Texts.{text_of, settings_text}

-- an event, or the answer to a line that asks nothing: what is wrong with it
abbrev pub line_from : Result Event Kind → Line
line_from (Ok e) = Ok e
line_from (Err k) = Err (answer.Bad k)

-- what a line asks
abbrev pub line_of : List ℕ → Line
line_of bytes = line_from (event_of bytes)

-- one of the lines asks nothing
abbrev pub has_bad : List Line → Bool
has_bad lines = list_any is_err lines

-- the statuses of a run that read its script to its end: 1 where one of its lines asked nothing
abbrev pub IsEndStatus : ℕ → Type 0
IsEndStatus status = (status ≡ 0) ⊎ (status ≡ 1)

-- the statuses of a run that read its script to its end, also where the tree could not be saved then
abbrev pub IsWholeStatus : ℕ → Type 0
IsWholeStatus status = IsEndStatus status ⊎ (status ≡ 5)

abbrev pub end_status : Bool → ℕ
end_status bad = if bad then 1 else 0

-- the line of an answer, and the line with which the output begins
abbrev pub line_text : Answer → List ℕ
line_text a = text_of a ++ line_feed ∷ []

abbrev pub settings_line : Settings → ℕ → List ℕ
settings_line settings number = settings_text settings number ++ line_feed ∷ []
