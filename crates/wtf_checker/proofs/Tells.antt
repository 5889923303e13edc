-- A line tells one answer: those that have its text are given, or none of them.
use Rattle.std.proofs.Common.{
  ◌≡◌,
  ◌⊎◌,
  ℕ,
  Bool,
  true,
  false,
  nat_lt,
  if◌then◌else◌,
  List,
  ◌∷◌,
  Option,
  is_some,
  Some,
  None,
  Result,
  Ok,
  Err,
  refl,
  sym,
  ◌∙◌,
  ap,
  subst,
  inl,
  inr,
}
use Rattle.std.specs.Prelude.{MatchOption}
use Rattle.std.specs.FinMap.{get}
use Rattle.wtf_model.specs.declared.answer.Answer.{Answer, Aborted'}
use Rattle.wtf_model.specs.declared.answer.Answer.TheVariants.{Okay, Shown, More, Done, Refused}
use Rattle.wtf_model.specs.declared.answer.Answer.TheVariants as answer
use Rattle.wtf_model.specs.declared.answer.Kind.{Kind}
use Rattle.wtf_model.specs.declared.answer.Word.{Word}
use Rattle.wtf_model.specs.declared.answer.Word.TheVariants.{NoServer, NoJob, ScanBusy}
use Rattle.wtf_model.specs.declared.op.JobKind.{JobKind}
use Rattle.wtf_model.specs.declared.op.JobKind.TheVariants.{Compact, Spill}
use Rattle.wtf_model.specs.declared.event.Verb.{Verb}
use Rattle.wtf_model.specs.declared.event.Verb.TheVariants as verb
use Rattle.wtf_model.specs.declared.event.Event.{Event}
use Rattle.wtf_model.specs.declared.event.Event.TheVariants as event
use Rattle.wtf_model.specs.Same.{AreSame}
use Rattle.wtf_model.specs.Tree.{◌>>=◌, source}
use Rattle.wtf_model.specs.Transaction.{Transaction, Job, answers_of}
use Rattle.wtf_model.specs.Faults.{IsReadFault, or_refusal}
use Rattle.wtf_model.specs.Jobs.{is_idle, has_region, planned, plan_answer, IsSpillFault, MayFailPlan, MayPut, drop_answer}
use Rattle.wtf_model.specs.Lawful.{client_refusal, Deviates, MayFailRead, MayAsk, is_short, dumped, May}
use Rattle.wtf_model.specs.Scans.{held_by, or_held, scan_answer, piece_answer, MayFailPiece, collect_refusal, MayCollect}
use Rattle.wtf_model.specs.declared.event.Holder.{Holder}
use Rattle.wtf_model.specs.Steps.{Machine, IsLogged, cap_of, due, session_of, after_client, after}
use Rattle.wtf_model.specs.Lines.{MayLine, after_line}
use Rattle.wtf_model.proofs.StepLaws.{IsLogged-call, IsStoreFault-MayFail}
use Rattle.wtf_print.specs.Forms.{IsWritable}
use Rattle.wtf_checker.specs.Lawful.{event_or_bad}

-- the same answer of a call, where a transaction was aborted at the same call
abbrev pub AreAborts : Answer → Answer → Type 0
AreAborts (Aborted' i box x) (Aborted' j other y) = (i ≡ j) × (x ≡ y)
AreAborts a b = ⊥

abbrev IsNoAbort : Answer → Type 0
IsNoAbort (Aborted' i box a) = ⊥
IsNoAbort a = Unit {0}

logged_same : (x y : Answer) → IsLogged x → AreSame x y → x ≡ y
logged_same (Aborted' i box x) y logged same = absurd logged
logged_same x y logged same = same

pub same_or_aborts : (a b : Answer) → IsWritable a → AreSame a b → (a ≡ b) ⊎ AreAborts a b
same_or_aborts (Aborted' i box x) (Aborted' j other y) form same = inr (same.0, logged_same x y form.1 same.1)
same_or_aborts (Aborted' i box x) b form same = absurd same
same_or_aborts a b form same = inl same

not_abort : (a b : Answer) → AreAborts a b → (d : Answer) → IsNoAbort d → a ≡ d → ⊥
not_abort (Aborted' i box x) b s d other e = subst IsNoAbort (sym e) other
not_abort a b s d other e = absurd s

logged_other : (a : Answer) → IsLogged a → IsNoAbort a
logged_other (Aborted' i box x) h = absurd h
logged_other a h = tt

if_other : (b : Bool) (x y : Answer) → IsNoAbort x → IsNoAbort y → IsNoAbort (if b then x else y)
if_other true x y here there = here
if_other false x y here there = there

bound : {A : Type 0} (r : Result A Word) (f : A → Result Answer Word) → ((x : A) → IsNoAbort (or_refusal (f x))) → IsNoAbort (or_refusal (r >>= f))
bound (Ok x) f h = h x
bound (Err w) f h = tt

dump_other : (m : Machine) (p : List ℕ) → IsNoAbort (or_refusal (dumped m.now p))
dump_other m p = bound (source m.now p) _ (λ bytes. bound (is_short bytes) _ (λ _. tt))

dump_fails : (servers : ℕ) (d a b : Answer) → AreAborts a b → MayFailRead servers d a → ⊥
dump_fails servers (Shown (c ∷ cs)) (Aborted' i box x) b s h = h
dump_fails servers (Shown (c ∷ cs)) a b s h = absurd s
dump_fails servers d a b s h = h

plan_other : (m : Machine) (j : ℕ) (p : List ℕ) (r : ℕ) → IsNoAbort (or_refusal (planned m j p r))
plan_other m j p r = bound (is_idle (get m.jobs j)) _ (λ _. bound (source m.now p) _ (λ bytes. bound (has_region m.settings.region bytes r) _ (λ _. tt)))

spill_fails : (kind : JobKind) (a b : Answer) → AreAborts a b → IsSpillFault kind a → ⊥
spill_fails kind answer.FaultWrite b s h = absurd s
spill_fails Compact a b s h = h
spill_fails Spill a b s h = h

read_fails : (servers : ℕ) (a b : Answer) → AreAborts a b → IsReadFault servers a → ⊥
read_fails servers (Aborted' i box x) b s h = h
read_fails servers a b s h = absurd s

plan_fails : (servers : ℕ) (kind : JobKind) (d a b : Answer) → AreAborts a b → MayFailPlan servers kind d a → ⊥
plan_fails servers kind answer.Planned a b s h = elim h [ inl read ↦ read_fails servers a b s read | inr spill ↦ spill_fails kind a b s spill ]
plan_fails servers kind d a b s h = h

put_aborts : (a b : Answer) → AreAborts a b → (m : Machine) (o : Option Job) → MayPut m o a → ⊥
put_aborts a b s m None h = not_abort a b s (Refused NoJob) tt h
put_aborts (Aborted' i box x) b s m (Some j) h = h
put_aborts a b s m (Some j) h = absurd s

held_other : (o : Option Holder) → IsNoAbort (or_held o)
held_other None = tt
held_other (Some h) = tt

piece_other : (k : ℕ) (left : Option ℕ) → IsNoAbort (piece_answer k left)
piece_other k None = tt
piece_other k (Some left) = if_other (nat_lt k left) _ _ tt tt

piece_fails : (servers : ℕ) (d a b : Answer) → AreAborts a b → MayFailPiece servers d a → ⊥
piece_fails servers (More left) a b s h = read_fails servers a b s h
piece_fails servers Done a b s h = read_fails servers a b s h
piece_fails servers d a b s h = h

collect_aborts : (a b : Answer) → AreAborts a b → (k : ℕ) (r : Option Word) → MatchOption r (MayCollect k a) (λ w. a ≡ Refused w) → ⊥
collect_aborts (Aborted' i box x) b s k None h = h
collect_aborts a b s k None h = absurd s
collect_aborts a b s k (Some w) h = not_abort a b s (Refused w) tt h

drop_other : (o : Option Job) → IsNoAbort (drop_answer o)
drop_other None = tt
drop_other (Some j) = tt

call_fails : (a b : Answer) → AreAborts a b → (m : Machine) (t : Transaction) (v : Verb) → MayAsk m (Some t) v a → MayAsk m (Some t) v b
call_fails (Aborted' i box x) (Aborted' j other y) s m t verb.Begin h = h
call_fails (Aborted' i box x) (Aborted' j other y) s m t verb.Try h = h
call_fails (Aborted' i box x) (Aborted' j other y) s m t verb.Step h = (sym s.0 ∙ h.0, h.1 ∙ ap (λ z. Some z) s.1, λ e. h.2 (e ∙ ap (λ z. Some z) (sym s.1)))
call_fails (Aborted' i box x) (Aborted' j other y) s m t verb.Commit h =
    subst (λ z. Deviates (answers_of (cap_of m) m.now t.ops) t.shown j z) s.1 (subst (λ k. Deviates (answers_of (cap_of m) m.now t.ops) t.shown k x) s.0 h)
call_fails (Aborted' i box x) (Aborted' j other y) s m t verb.Abort h = absurd (not_abort (Aborted' i box x) (Aborted' j other y) s Okay tt h)
call_fails (Aborted' i box x) (Aborted' j other y) s m t (verb.Call o) (inl is) =
    absurd (not_abort (Aborted' i box x) (Aborted' j other y) s (due m t o) (logged_other (due m t o) (IsLogged-call (cap_of m) (session_of m t) o)) is)
call_fails (Aborted' i box x) (Aborted' j other y) s m t (verb.Call o) (inr fails) = absurd
    (IsStoreFault-MayFail m.settings.servers o (due m t o) (Aborted' i box x) fails)
call_fails a b s m t v h = absurd s

ask_aborts : (a b : Answer) → AreAborts a b → (m : Machine) (o : Option Transaction) (v : Verb) → MayAsk m o v a → MayAsk m o v b
ask_aborts a b s m None v h = absurd (not_abort a b s (answer.Begun m.number) tt h)
ask_aborts a b s m (Some t) v h = call_fails a b s m t v h

client_aborts : (a b : Answer) → AreAborts a b → (m : Machine) (o : Option Transaction) (v : Verb) (r : Option Word)
    → MatchOption r (MayAsk m o v a) (λ w. a ≡ Refused w) → MatchOption r (MayAsk m o v b) (λ w. b ≡ Refused w)
client_aborts a b s m o v None h = ask_aborts a b s m o v h
client_aborts a b s m o v (Some w) h = absurd (not_abort a b s (Refused w) tt h)

save_aborts : (a b : Answer) → AreAborts a b → (m : Machine) → May m event.Save a → ⊥
save_aborts (Aborted' i box x) b s m h = h
save_aborts a b s m h = absurd s

may_aborts : (a b : Answer) → AreAborts a b → (m : Machine) (e : Event) → May m e a → May m e b
may_aborts a b s m (event.Client c v) h = client_aborts a b s m (get m.transactions c) v (client_refusal (get m.transactions c) v) h
may_aborts a b s m (event.Plan j kind p r) (inl is) = absurd (not_abort a b s (plan_answer m j p r) (plan_other m j p r) is)
may_aborts a b s m (event.Plan j kind p r) (inr fails) = absurd (plan_fails m.settings.servers kind (plan_answer m j p r) a b s fails)
may_aborts a b s m (event.Put j) h = absurd (put_aborts a b s m (get m.jobs j) h)
may_aborts a b s m (event.DropJob j) h = absurd (not_abort a b s (drop_answer (get m.jobs j)) (drop_other (get m.jobs j)) h)
may_aborts a b s m event.Scan h = absurd (not_abort a b s (scan_answer m) (if_other (is_some m.parts_left) (Refused ScanBusy) (or_held (held_by m)) tt
    (held_other (held_by m))) h)
may_aborts a b s m (event.Piece k) (inl is) = absurd (not_abort a b s (piece_answer k m.parts_left) (piece_other k m.parts_left) is)
may_aborts a b s m (event.Piece k) (inr fails) = absurd (piece_fails m.settings.servers (piece_answer k m.parts_left) a b s fails)
may_aborts a b s m (event.Collect k) h = absurd (collect_aborts a b s k (collect_refusal m k) h)
may_aborts a b s m (event.Down k) h = absurd (not_abort a b s (if nat_lt k m.settings.servers then Okay else Refused NoServer)
    (if_other (nat_lt k m.settings.servers) Okay (Refused NoServer) tt tt) h)
may_aborts a b s m (event.Up k) h = absurd (not_abort a b s (if nat_lt k m.settings.servers then Okay else Refused NoServer)
    (if_other (nat_lt k m.settings.servers) Okay (Refused NoServer) tt tt) h)
may_aborts a b s m event.Save h = absurd (save_aborts a b s m h)
may_aborts a b s m (event.Dump p) (inl is) = absurd (not_abort a b s (or_refusal (dumped m.now p)) (dump_other m p) is)
may_aborts a b s m (event.Dump p) (inr fails) = absurd (dump_fails m.settings.servers (or_refusal (dumped m.now p)) a b s fails)
may_aborts a b s m event.Tree h = absurd (not_abort a b s _ tt h)

-- the machine may give both of two answers that say the same
pub may_same : (m : Machine) (asked : Result Event Kind) (a b : Answer) → IsWritable a → AreSame a b → MayLine m (event_or_bad asked) a
    → MayLine m (event_or_bad asked) b
may_same m (Ok e) a b form same h = elim (same_or_aborts a b form same) [
  | inl is ↦ subst (λ x. May m e x) is h
  | inr aborts ↦ may_aborts a b aborts m e h
]
may_same m (Err k) a b form same h = elim (same_or_aborts a b form same) [
  | inl is ↦ sym is ∙ h
  | inr aborts ↦ absurd (not_abort a b aborts (answer.Bad k) tt h)
]

client_after : (a b : Answer) → AreAborts a b → (m : Machine) (c : ℕ) (o : Option Transaction) (v : Verb) → after_client m c o v a ≡ after_client m c o v b
client_after (Aborted' i box x) (Aborted' j other y) s m c None verb.Begin = refl
client_after (Aborted' i box x) (Aborted' j other y) s m c None v = refl
client_after (Aborted' i box x) (Aborted' j other y) s m c (Some t) verb.Begin = refl
client_after (Aborted' i box x) (Aborted' j other y) s m c (Some t) verb.Try = refl
client_after (Aborted' i box x) (Aborted' j other y) s m c (Some t) verb.Step = refl
client_after (Aborted' i box x) (Aborted' j other y) s m c (Some t) verb.Commit = refl
client_after (Aborted' i box x) (Aborted' j other y) s m c (Some t) verb.Abort = refl
client_after (Aborted' i box x) (Aborted' j other y) s m c (Some t) (verb.Call o) = refl
client_after a b s m c o v = absurd s

event_after : (a b : Answer) → AreAborts a b → (m : Machine) (e : Event) → after m e a ≡ after m e b
event_after a b s m (event.Client c v) = client_after a b s m c (get m.transactions c) v
event_after (Aborted' i box x) (Aborted' j other y) s m (event.Plan k kind p r) = refl
event_after (Aborted' i box x) (Aborted' j other y) s m (event.Put k) = refl
event_after (Aborted' i box x) (Aborted' j other y) s m (event.DropJob k) = refl
event_after (Aborted' i box x) (Aborted' j other y) s m event.Scan = refl
event_after (Aborted' i box x) (Aborted' j other y) s m (event.Piece k) = refl
event_after (Aborted' i box x) (Aborted' j other y) s m (event.Collect k) = refl
event_after (Aborted' i box x) (Aborted' j other y) s m (event.Down k) = refl
event_after (Aborted' i box x) (Aborted' j other y) s m (event.Up k) = refl
event_after (Aborted' i box x) (Aborted' j other y) s m event.Save = refl
event_after (Aborted' i box x) (Aborted' j other y) s m (event.Dump p) = refl
event_after (Aborted' i box x) (Aborted' j other y) s m event.Tree = refl
event_after a b s m e = absurd s

-- and it is the same machine behind them
pub after_same : (m : Machine) (asked : Result Event Kind) (a b : Answer) → IsWritable a → AreSame a b
    → after_line m (event_or_bad asked) a ≡ after_line m (event_or_bad asked) b
after_same m (Ok e) a b form same = elim (same_or_aborts a b form same) [
  | inl is ↦ ap (λ x. after m e x) is
  | inr aborts ↦ event_after a b aborts m e
]
after_same m (Err k) a b form same = refl
