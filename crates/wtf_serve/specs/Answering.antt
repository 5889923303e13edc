-- Lines as scripts give them, and what they hand in.
use Rattle.std.specs.Prelude.{◌≡◌, ℕ, List, [], ⊤, Ok, Err}
use Rattle.wtf_model.specs.declared.answer.Answer.{Answer}
use Rattle.wtf_model.specs.declared.answer.Answer.TheVariants as answer
use Rattle.wtf_model.specs.Form.{IsFormEvent}
use Rattle.wtf_model.specs.Lines.{Line}
use Rattle.wtf_core.specs.Outcomes.{Load, no_load, load_of, data_of_event}

-- a line that asks nothing gets its own answer
abbrev pub IsOwnAnswer : Line → Answer → Type 0
IsOwnAnswer (Ok e) a = ⊤
IsOwnAnswer (Err bad) a = a ≡ bad

-- the bytes that a line hands in to be written
abbrev pub line_data : Line → List ℕ
line_data (Ok e) = data_of_event e
line_data (Err bad) = []

-- what it is to store
abbrev pub line_load : Line → Load
line_load (Ok e) = load_of e
line_load (Err bad) = no_load

-- the answer of a line that asks nothing
abbrev pub IsBad : Answer → Type 0
IsBad (answer.Bad k) = ⊤
IsBad a = ⊥

-- a line as scripts give it
abbrev pub IsFormLine : Line → Type 0
IsFormLine (Ok e) = IsFormEvent e
IsFormLine (Err bad) = IsBad bad
