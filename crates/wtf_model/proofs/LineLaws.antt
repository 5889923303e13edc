-- Laws of lines with their answers: one more line, and the machine beside its lines.
use Rattle.std.proofs.Common.{◌≡◌, suc, ◌+◌, Bool, if◌then◌else◌, List, [], ◌∷◌, ◌++◌, length, Ok, Err, refl, ap, ◌∙◌, arith}
use Rattle.wtf_model.specs.declared.answer.Answer.{Answer}
use Rattle.wtf_model.specs.Steps.{Machine, Accepts, after}
use Rattle.wtf_model.specs.Lines.{Line, state_after, AlongBy, count_by, MayLine, Along, events_of, answers_to}

module _ {S : Type 0} (next : S → Line → Answer → S) where
  pub state_after-push : (s : S) (lines : List Line) (answers : List Answer) (line : Line) (a : Answer) → length lines ≡ length answers
      → state_after next s (lines ++ line ∷ []) (answers ++ a ∷ []) ≡ next (state_after next s lines answers) line a
  unfolding state_after
  state_after-push s [] [] line a h = refl
  state_after-push s [] (b ∷ answers) line a h = absurd (omega arith)
  state_after-push s (l ∷ lines) [] line a h = absurd (omega arith)
  state_after-push s (l ∷ lines) (b ∷ answers) line a h = state_after-push (next s l b) lines answers line a (omega arith)

  -- each line has its answer
  pub AlongBy-lengths : (P : S → Line → Answer → Type 0) (s : S) (lines : List Line) (answers : List Answer) → AlongBy next P s lines answers → length lines ≡ length answers
  unfolding AlongBy
  AlongBy-lengths P s [] [] h = refl
  AlongBy-lengths P s [] (a ∷ answers) h = absurd h
  AlongBy-lengths P s (line ∷ lines) [] h = absurd h
  AlongBy-lengths P s (line ∷ lines) (a ∷ answers) h = ap (λ n. suc n) (AlongBy-lengths P (next s line a) lines answers h.1)

  pub AlongBy-push : (P : S → Line → Answer → Type 0) (s : S) (lines : List Line) (answers : List Answer) (line : Line) (a : Answer)
      → AlongBy next P s lines answers → P (state_after next s lines answers) line a → AlongBy next P s (lines ++ line ∷ []) (answers ++ a ∷ [])
  unfolding AlongBy state_after
  AlongBy-push P s [] [] line a h here = (here, tt)
  AlongBy-push P s [] (b ∷ answers) line a h here = absurd h
  AlongBy-push P s (l ∷ lines) [] line a h here = absurd h
  AlongBy-push P s (l ∷ lines) (b ∷ answers) line a h here = (h.0, AlongBy-push P (next s l b) lines answers line a h.1 here)

  pub count_by-none : (counts : S → Answer → Bool) (s : S) → count_by next counts s [] [] ≡ 0
  unfolding count_by
  count_by-none counts s = refl

  pub count_by-push : (counts : S → Answer → Bool) (s : S) (lines : List Line) (answers : List Answer) (line : Line) (a : Answer) → length lines ≡ length answers
      → count_by next counts s (lines ++ line ∷ []) (answers ++ a ∷ []) ≡ count_by next counts s lines answers + (if counts (state_after next s lines answers) a then 1 else 0)
  unfolding count_by state_after
  count_by-push counts s [] [] line a h = omega arith
  count_by-push counts s [] (b ∷ answers) line a h = absurd (omega (arith, h))
  count_by-push counts s (l ∷ lines) [] line a h = absurd (omega (arith, h))
  count_by-push counts s (l ∷ lines) (b ∷ answers) line a h =
      omega (arith, count_by-push counts (next s l b) lines answers line a (omega (arith, h)))

  -- Where a part f of a state goes on by itself, the part of the state after lines is that part gone on along them
  pub state_after-part : {T : Type 0} (along : T → Line → Answer → T) (f : S → T) → ((s : S) (line : Line) (a : Answer) → f (next s line a) ≡ along (f s) line a)
      → (s : S) (lines : List Line) (answers : List Answer) → f (state_after next s lines answers) ≡ state_after along (f s) lines answers
  unfolding state_after
  state_after-part along f step s [] answers = refl
  state_after-part along f step s (line ∷ lines) [] = refl
  state_after-part along f step s (line ∷ lines) (a ∷ answers) =
      state_after-part along f step (next s line a) lines answers ∙ ap (λ t. state_after along t lines answers) (step s line a)

-- the events of lines that the machine may answer so are accepted
pub Accepts-from_lines : (m : Machine) (lines : List Line) (answers : List Answer) → Along MayLine m lines answers → Accepts m (events_of lines) (answers_to lines answers)
unfolding AlongBy Accepts events_of answers_to
Accepts-from_lines m [] [] h = tt
Accepts-from_lines m [] (a ∷ answers) h = absurd h
Accepts-from_lines m (Ok e ∷ lines) [] h = absurd h
Accepts-from_lines m (Err bad ∷ lines) [] h = absurd h
Accepts-from_lines m (Ok e ∷ lines) (a ∷ answers) h = (h.0, Accepts-from_lines (after m e a) lines answers h.1)
Accepts-from_lines m (Err bad ∷ lines) (a ∷ answers) h = Accepts-from_lines m lines answers h.1
