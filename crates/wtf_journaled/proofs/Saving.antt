-- Only a save is answered `saved`.
use Rattle.std.proofs.Common.{◌≡◌, ◌⊎◌, ◌+◌, ◌-◌, ℕ, Bool, true, false, List, [], ◌∷◌, map, Option, None, Some, Result, Ok, Err, refl, sym, ap, ◌∙◌}
use Rattle.std.proofs.Common.{subst, inl, inr}
use Rattle.std.specs.Prelude.{if◌then◌else◌, is_some, nat_lt, MatchOption, ⊤}
use Rattle.std.specs.FinMap.{get}
use Rattle.wtf_model.specs.declared.answer.Answer.{Answer}
use Rattle.wtf_model.specs.declared.answer.Answer.TheVariants as answer
use Rattle.wtf_model.specs.declared.answer.Kind.{Kind}
use Rattle.wtf_model.specs.declared.answer.Word.{Word}
use Rattle.wtf_model.specs.declared.answer.Word.TheVariants as word
use Rattle.wtf_model.specs.declared.event.Event.{Event}
use Rattle.wtf_model.specs.declared.event.Event.TheVariants as event
use Rattle.wtf_model.specs.declared.event.Holder.{Holder}
use Rattle.wtf_model.specs.declared.event.Verb.{Verb}
use Rattle.wtf_model.specs.declared.event.Verb.TheVariants as verb
use Rattle.wtf_model.specs.declared.op.JobKind.{JobKind}
use Rattle.wtf_model.specs.declared.op.JobKind.TheVariants.{Compact, Spill}
use Rattle.wtf_model.specs.declared.op.Op.{Op}
use Rattle.wtf_model.specs.Faults.{or_refusal}
use Rattle.wtf_model.specs.Jobs.{IsSpillFault, MayPut, drop_answer}
use Rattle.wtf_model.specs.Lawful.{May, MayAsk, MayCall, MayFailRead, client_refusal, dump_answer, is_short}
use Rattle.wtf_model.specs.Lines.{Along, AlongBy, Line, MayLine, after_line}
use Rattle.wtf_model.specs.Machines.{Machine, cap_of, due, session_of}
use Rattle.wtf_model.specs.Scans.{MayCollect, MayFailPiece, collect_refusal, held_by, or_held, piece_answer}
use Rattle.wtf_model.specs.Steps.{IsLogged}
use Rattle.wtf_model.specs.Transaction.{Job, Transaction}
use Rattle.wtf_model.specs.Tree.{◌>>=◌, source}
use Rattle.wtf_model.proofs.JobLaws.{plan_answers}
use Rattle.wtf_model.proofs.StepLaws.{IsLogged-call, IsStoreFault-MayFail}
use Rattle.wtf_script.specs.Grammar.{event_of}
use Rattle.wtf_serve.specs.Scripts.{line_from, line_of}
use Rattle.wtf_journaled.specs.Added.{has_saved, is_saved, saved_count}

-- an answer that is not `saved`
abbrev IsOther : Answer → Type 0
IsOther (answer.Saved n) = ⊥
IsOther a = ⊤

bound : {A : Type 0} (r : Result A Word) (f : A → Result Answer Word) → ((x : A) → IsOther (or_refusal (f x))) → IsOther (or_refusal (r >>= f))
bound (Ok x) f h = h x
bound (Err w) f h = tt

unrefused : (n : ℕ) (o : Option Word) (P : Type 0) → MatchOption o P (λ w. answer.Saved n ≡ answer.Refused w) → P
unrefused n None P h = h
unrefused n (Some w) P h = absurd (cc)

call_saves : (m : Machine) (t : Transaction) (o : Op (List ℕ)) (n : ℕ) → MayCall m t o (answer.Saved n) → ⊥
call_saves m t o n (inl is) = subst IsLogged (sym is) (IsLogged-call (cap_of m) (session_of m t) o)
call_saves m t o n (inr fails) = IsStoreFault-MayFail m.settings.servers o (due m t o) (answer.Saved n) fails

ask_saves : (m : Machine) (o : Option Transaction) (v : Verb) (n : ℕ) → MayAsk m o v (answer.Saved n) → ⊥
ask_saves m None v n h = absurd (cc)
ask_saves m (Some t) verb.Begin n h = h
ask_saves m (Some t) verb.Try n h = h
ask_saves m (Some t) verb.Step n h = h.1
ask_saves m (Some t) verb.Commit n h = h
ask_saves m (Some t) verb.Abort n h = absurd (cc)
ask_saves m (Some t) (verb.Call o) n h = call_saves m t o n h

spill_saves : (kind : JobKind) (n : ℕ) → IsSpillFault kind (answer.Saved n) → ⊥
spill_saves Compact n h = h
spill_saves Spill n h = h

put_saves : (m : Machine) (o : Option Job) (n : ℕ) → MayPut m o (answer.Saved n) → ⊥
put_saves m None n h = absurd (cc)
put_saves m (Some j) n h = h

drop_other : (o : Option Job) → IsOther (drop_answer o)
drop_other None = tt
drop_other (Some j) = tt

scan_other : (b : Bool) (o : Option Holder) → IsOther (if b then answer.Refused word.ScanBusy else or_held o)
scan_other true o = tt
scan_other false None = tt
scan_other false (Some h) = tt

part_saves : (servers left n : ℕ) (b : Bool) → (answer.Saved n ≡ (if b then answer.More left else answer.Done))
    ⊎ MayFailPiece servers (if b then answer.More left else answer.Done) (answer.Saved n) → ⊥
part_saves servers left n true (inl is) = absurd (cc)
part_saves servers left n true (inr fails) = fails
part_saves servers left n false (inl is) = absurd (cc)
part_saves servers left n false (inr fails) = fails

piece_saves : (servers k n : ℕ) (o : Option ℕ) → (answer.Saved n ≡ piece_answer k o) ⊎ MayFailPiece servers (piece_answer k o) (answer.Saved n) → ⊥
piece_saves servers k n None (inl is) = absurd (cc)
piece_saves servers k n None (inr fails) = fails
piece_saves servers k n (Some left) h = part_saves servers (left - k) n (nat_lt k left) h

server_other : (b : Bool) → IsOther (if b then answer.Okay else answer.Refused word.NoServer)
server_other true = tt
server_other false = tt

dump_other : (m : Machine) (p : List ℕ) → IsOther (dump_answer m p)
dump_other m p = bound (source m.now p) _ (λ bytes. bound (is_short bytes) _ (λ _. tt))

read_saves : (servers n : ℕ) (d : Answer) → MayFailRead servers d (answer.Saved n) → ⊥
read_saves servers n (answer.Shown (b ∷ bytes)) h = h
read_saves servers n (answer.Shown []) h = h
read_saves servers n d h = h

event_saves : (m : Machine) (e : Event) (n : ℕ) → May m e (answer.Saved n) → has_saved (Ok e) (answer.Saved n) ≡ true
event_saves m event.Save n h = refl
event_saves m (event.Client c v) n h =
    absurd (ask_saves m (get m.transactions c) v n
    (unrefused n (client_refusal (get m.transactions c) v) (MayAsk m (get m.transactions c) v (answer.Saved n)) h))
event_saves m (event.Plan j kind p r) n h =
    absurd (elim (plan_answers m j r kind p (answer.Saved n) h) [
      | inl due ↦ due
      | inr fails ↦ elim fails [ inl read ↦ read | inr spill ↦ spill_saves kind n spill ]
    ])
event_saves m (event.Put j) n h = absurd (put_saves m (get m.jobs j) n h)
event_saves m (event.DropJob j) n h = absurd (subst IsOther (sym h) (drop_other (get m.jobs j)))
event_saves m event.Scan n h = absurd (subst IsOther (sym h) (scan_other (is_some m.parts_left) (held_by m)))
event_saves m (event.Piece k) n h = absurd (piece_saves m.settings.servers k n m.parts_left h)
event_saves m (event.Collect k) n h = absurd (unrefused n (collect_refusal m k) (MayCollect k (answer.Saved n)) h)
event_saves m (event.Down k) n h = absurd (subst IsOther (sym h) (server_other (nat_lt k m.settings.servers)))
event_saves m (event.Up k) n h = absurd (subst IsOther (sym h) (server_other (nat_lt k m.settings.servers)))
event_saves m (event.Dump p) n (inl is) = absurd (subst IsOther (sym is) (dump_other m p))
event_saves m (event.Dump p) n (inr fails) = absurd (read_saves m.settings.servers n (dump_answer m p) fails)
event_saves m event.Tree n h = absurd (cc)

not_saved : (line : Line) (a : Answer) → IsOther a → has_saved line a ≡ is_saved a
not_saved (Ok event.Save) (answer.Saved n) other = absurd other
not_saved (Ok event.Save) a other = refl
not_saved line (answer.Saved n) other = absurd other
not_saved line a other = refl

line_saves : (m : Machine) (r : Result Event Kind) (a : Answer) → MayLine m (line_from r) a → has_saved (line_from r) a ≡ is_saved a
line_saves m (Ok e) (answer.Saved n) may = event_saves m e n may
line_saves m (Ok e) a may = not_saved (Ok e) a tt
line_saves m (Err k) a may = not_saved (Err (answer.Bad k)) a (subst IsOther (sym may) tt)

-- how many of the lines are a save that was answered `saved`
abbrev pub saves_count : List Line → List Answer → ℕ
saves_count (line ∷ lines) (a ∷ answers) = (if has_saved line a then 1 else 0) + saves_count lines answers
saves_count lines answers = 0

-- as many answers are `saved`
pub saves_are : (m : Machine) (lines : List (List ℕ)) (answers : List Answer) → Along MayLine m (map line_of lines) answers
    → saves_count (map line_of lines) answers ≡ saved_count answers
unfolding AlongBy
saves_are m [] [] along = refl
saves_are m [] (a ∷ answers) along = absurd along
saves_are m (line ∷ lines) [] along = absurd along
saves_are m (line ∷ lines) (a ∷ answers) (may, along) =
    ap (λ (b : Bool). (if b then 1 else 0) + saves_count (map line_of lines) answers) (line_saves m (event_of line) a may)
    ∙ ap (λ (n : ℕ). (if is_saved a then 1 else 0) + n) (saves_are (after_line m (line_of line) a) lines answers along)
