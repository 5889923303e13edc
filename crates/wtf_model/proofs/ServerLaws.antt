-- The servers that are down along lines are those of the machine.
use Rattle.std.proofs.Common.{◌≡◌, ◌≢◌, ◌⊎◌, ℕ, ◌==◌, true, false, if◌then◌else◌, List, Option, Some, None, Ok, Err, refl, sym, ap, ◌∙◌, inl, inr}
use Rattle.std.proofs.Math.Path.{fun_ext}
use Rattle.std.proofs.lemmas.Bool.{cases_eq, eq-eqb, ne_eqb, cond-true, cond-false}
use Rattle.std.specs.FinMap.{get}
use Rattle.wtf_base.specs.declared.settings.Settings.{Settings}
use Rattle.wtf_model.specs.declared.answer.Answer.{Answer, Aborted'}
use Rattle.wtf_model.specs.declared.answer.Answer.TheVariants as answer
use Rattle.wtf_model.specs.declared.op.Op.{Op}
use Rattle.wtf_model.specs.declared.event.Verb.{Verb}
use Rattle.wtf_model.specs.declared.event.Verb.TheVariants as verb
use Rattle.wtf_model.specs.declared.event.Event.{Event}
use Rattle.wtf_model.specs.declared.event.Event.TheVariants as event
use Rattle.wtf_model.specs.Tree.{Tree}
use Rattle.wtf_model.specs.Transaction.{Transaction}
use Rattle.wtf_model.specs.Steps.{Machine, start, is_down, is_logged, logged, with_transaction, called, tried, stepped, committed, after, saved, after_client}
use Rattle.wtf_model.proofs.MachineLaws.{with_job-rest, put_in_place-rest, dropped-rest, scanning-rest, scanned-rest}
use Rattle.wtf_model.proofs.StepLaws.{is_down-start, is_down-down, is_down-down_other, is_down-up, is_down-up_other}
use Rattle.wtf_model.specs.Lines.{Line, after_line, machine_after}
use Rattle.wtf_model.specs.Servers.{none_down, set_down, down_after_event, down_after, downs_after}
use Rattle.wtf_model.proofs.LineLaws.{state_after-part}

called_keeps : (m : Machine) (c : ℕ) (t : Transaction) (o : Op (List ℕ)) (a : Answer) → (called m c t o a).down ≡ m.down
called_keeps m c t o a = elim (is_logged a) as (λ b. (if b then with_transaction m c (logged t o a) else m).down ≡ m.down) [ true ↦ refl | false ↦ refl ]

try_keeps : (m : Machine) (c : ℕ) (t : Transaction) (a : Answer) → (tried m c t a).down ≡ m.down
try_keeps m c t (answer.Committed n) = refl
try_keeps m c t (answer.Retry base now) = refl
try_keeps m c t a = refl

step_keeps : (m : Machine) (c : ℕ) (t : Transaction) (a : Answer) → (stepped m c t a).down ≡ m.down
step_keeps m c t (answer.Replayed i) = refl
step_keeps m c t (Aborted' i box a) = refl
step_keeps m c t a = refl

commit_keeps : (m : Machine) (c : ℕ) (t : Transaction) (a : Answer) → (committed m c t a).down ≡ m.down
commit_keeps m c t (answer.Committed n) = refl
commit_keeps m c t (Aborted' i box a) = refl
commit_keeps m c t a = refl

client_keeps : (m : Machine) (c : ℕ) (o : Option Transaction) (v : Verb) (a : Answer) → (after_client m c o v a).down ≡ m.down
client_keeps m c None verb.Begin (answer.Begun n) = refl
client_keeps m c None verb.Begin a = refl
client_keeps m c (Some t) verb.Try a = try_keeps m c t a
client_keeps m c (Some t) verb.Step a = step_keeps m c t a
client_keeps m c (Some t) verb.Commit a = commit_keeps m c t a
client_keeps m c (Some t) verb.Abort answer.Okay = refl
client_keeps m c (Some t) verb.Abort a = refl
client_keeps m c (Some t) (verb.Call o) a = called_keeps m c t o a
client_keeps m c o v a = refl

taken_down : (m : Machine) (k j : ℕ) → (j ≡ k) ⊎ (j ≢ k) → is_down (after m (event.Down k) answer.Okay) j ≡ (if j == k then true else is_down m j)
taken_down m k j (inl same) = ap (is_down (after m (event.Down k) answer.Okay)) same ∙ is_down-down m k ∙ sym (cond-true _ _ _ (eq-eqb j k same))
taken_down m k j (inr other) = is_down-down_other m j k other ∙ sym (cond-false _ _ _ (ne_eqb j k other))

brought_up : (m : Machine) (k j : ℕ) → (j ≡ k) ⊎ (j ≢ k) → is_down (after m (event.Up k) answer.Okay) j ≡ (if j == k then false else is_down m j)
brought_up m k j (inl same) = ap (is_down (after m (event.Up k) answer.Okay)) same ∙ is_down-up m k ∙ sym (cond-true _ _ _ (eq-eqb j k same))
brought_up m k j (inr other) = is_down-up_other m j k other ∙ sym (cond-false _ _ _ (ne_eqb j k other))

downs_go : (m : Machine) (k j : ℕ) (a : Answer) → is_down (after m (event.Down k) a) j ≡ set_down (is_down m) k true a j
downs_go m k j answer.Okay = taken_down m k j (cases_eq j k)
downs_go m k j a = refl

ups_go : (m : Machine) (k j : ℕ) (a : Answer) → is_down (after m (event.Up k) a) j ≡ set_down (is_down m) k false a j
ups_go m k j answer.Okay = brought_up m k j (cases_eq j k)
ups_go m k j a = refl

saved_keeps : (m : Machine) (a : Answer) → (saved m a).down ≡ m.down
saved_keeps m (answer.Saved n) = refl
saved_keeps m answer.FaultSave = refl
saved_keeps m a = refl

-- an event takes servers down and up as its line tells
pub is_down-event : (m : Machine) (e : Event) (a : Answer) (j : ℕ) → is_down (after m e a) j ≡ down_after_event (is_down m) e a j
is_down-event m (event.Client c v) a j = ap (λ d. is_down (record m { down = d }) j) (client_keeps m c (get m.transactions c) v a)
is_down-event m (event.Plan i kind p r) a j = ap (λ (x : Machine). is_down x j) (with_job-rest m i kind p r a)
is_down-event m (event.Put i) a j = ap (λ (x : Machine). is_down x j) (put_in_place-rest m i a)
is_down-event m (event.DropJob i) a j = ap (λ (x : Machine). is_down x j) (dropped-rest m i a)
is_down-event m event.Scan a j = ap (λ (x : Machine). is_down x j) (scanning-rest m a)
is_down-event m (event.Piece k) a j = ap (λ (x : Machine). is_down x j) (scanned-rest m a)
is_down-event m (event.Down k) a j = downs_go m k j a
is_down-event m (event.Up k) a j = ups_go m k j a
is_down-event m event.Save a j = ap (λ d. is_down (record m { down = d }) j) (saved_keeps m a)
is_down-event m e a j = refl

-- and so does a line
pub is_down-line : (m : Machine) (line : Line) (a : Answer) → is_down (after_line m line a) ≡ down_after (is_down m) line a
is_down-line m (Ok e) a = fun_ext (λ j. is_down-event m e a j)
is_down-line m (Err bad) a = refl

-- and so do all of them
pub is_down-lines : (m : Machine) (lines : List Line) (answers : List Answer) → is_down (machine_after m lines answers) ≡ downs_after (is_down m) lines answers
is_down-lines m lines answers = state_after-part after_line down_after is_down (λ x line a. is_down-line x line a) m lines answers

-- at the start no server is down
pub is_down-none : (settings : Settings) (number : ℕ) (tree : Tree) → is_down (start settings number tree) ≡ none_down
is_down-none settings number tree = fun_ext (λ k. is_down-start settings number tree k)
