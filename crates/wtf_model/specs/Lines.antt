-- The lines of a script with their answers. A line is an event, or, where it asks nothing, the answer that it gets: that
-- answer is given, and leaves everything as it was.
use Rattle.std.specs.Prelude.{◌≡◌, ℕ, ◌+◌, Bool, if◌then◌else◌, List, [], ◌∷◌, Result, Ok, Err}
use Rattle.wtf_model.specs.declared.answer.Answer.{Answer}
use Rattle.wtf_model.specs.declared.event.Event.{Event}
use Rattle.wtf_model.specs.Steps.{Machine, May, after}

abbrev pub Line : Type 0
Line = Result Event Answer

-- Along lines and their answers, where `next` tells what a line and its answer make of a state:

-- the state after all of them
unfoldable pub state_after : {S : Type 0} → (S → Line → Answer → S) → S → List Line → List Answer → S
state_after next s (line ∷ lines) (a ∷ answers) = state_after next (next s line a) lines answers
state_after next s lines answers = s

-- each line has one answer, and P holds of both, with the state before the line
unfoldable pub AlongBy : {S : Type 0} → (S → Line → Answer → S) → (S → Line → Answer → Type 0) → S → List Line → List Answer → Type 0
AlongBy next P s [] [] = Unit {0}
AlongBy next P s (line ∷ lines) (a ∷ answers) = P s line a × AlongBy next P (next s line a) lines answers
AlongBy next P s [] (a ∷ answers) = ⊥
AlongBy next P s (line ∷ lines) [] = ⊥

-- how many answers the test counts
unfoldable pub count_by : {S : Type 0} → (S → Line → Answer → S) → (S → Answer → Bool) → S → List Line → List Answer → ℕ
count_by next counts s (line ∷ lines) (a ∷ answers) =
    (if counts s a then 1 else 0) + count_by next counts (next s line a) lines answers
count_by next counts s lines answers = 0

-- Along them with the machine:

-- it may give the answer a to the line
abbrev pub MayLine : Machine → Line → Answer → Type 0
MayLine m (Ok e) a = May m e a
MayLine m (Err bad) a = a ≡ bad

abbrev pub after_line : Machine → Line → Answer → Machine
after_line m (Ok e) a = after m e a
after_line m (Err bad) a = m

abbrev pub Along : (Machine → Line → Answer → Type 0) → Machine → List Line → List Answer → Type 0
Along P m lines answers = AlongBy after_line P m lines answers

abbrev pub machine_after : Machine → List Line → List Answer → Machine
machine_after m lines answers = state_after after_line m lines answers

-- the events of lines, without those that ask nothing
unfoldable pub events_of : List Line → List Event
events_of [] = []
events_of (Ok e ∷ lines) = e ∷ events_of lines
events_of (Err bad ∷ lines) = events_of lines

-- and the answers to them
unfoldable pub answers_to : List Line → List Answer → List Answer
answers_to [] answers = []
answers_to (line ∷ lines) [] = []
answers_to (Ok e ∷ lines) (a ∷ answers) = a ∷ answers_to lines answers
answers_to (Err bad ∷ lines) (a ∷ answers) = answers_to lines answers
