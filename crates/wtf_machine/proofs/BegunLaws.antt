-- Laws of open transactions: what one more call, a step of a replay and a commit come to.
use Rattle.std.proofs.Common.{
  ◌≡◌,
  ◌≢◌,
  ◌↔◌,
  ◌+◌,
  ◌<◌,
  ℕ,
  Bool,
  true,
  false,
  List,
  [],
  ◌∷◌,
  ◌++◌,
  length,
  take,
  get_or,
  slice_get,
  Option,
  Some,
  refl,
  sym,
  ap,
  ◌∙◌,
  subst,
  inl,
  inr,
  IsTrue,
  if◌then◌else◌,
}
use Rattle.std.proofs.Math.Seq.{take-length}
use Rattle.std.proofs.lemmas.List.{length-map}
use Rattle.std.specs.Bool.{MatchBool}
use Rattle.wtf_machine.specs.declared.begun.Begun.{Begun}
use Rattle.wtf_machine.specs.declared.log.Logged.{Logged}
use Rattle.wtf_machine.specs.declared.workspace.Workspace.{Workspace}
use Rattle.wtf_machine.specs.Logs.{ops_of, IsWarm}
use Rattle.wtf_machine.specs.Sessions.{session_in}
use Rattle.wtf_machine.specs.Verdicts.{called_on}
use Rattle.wtf_model.specs.declared.answer.Answer.{Answer}
use Rattle.wtf_model.specs.declared.answer.Answer.TheVariants as answer
use Rattle.wtf_model.specs.declared.op.Op.{Op}
use Rattle.wtf_model.specs.Tree.{Tree}
use Rattle.wtf_model.specs.Session.{Session, fresh}
use Rattle.wtf_model.specs.Done.{Done}
use Rattle.wtf_model.specs.Call.{call}
use Rattle.wtf_model.specs.Transaction.{Transaction, session_after, answers_of}
use Rattle.wtf_model.specs.Examples.{IsStoreFault}
use Rattle.wtf_model.specs.Lawful.{MayFail, MayCall}
use Rattle.wtf_model.specs.Machines.{Machine, cap_of, due}
use Rattle.wtf_model.specs.Steps.{IsLogged, is_logged, logged}
use Rattle.wtf_model.proofs.Laws.{session_from-push}
use Rattle.wtf_model.proofs.StepLaws.{IsLogged-call, IsStoreFault-MayFail}
use Rattle.wtf_machine.proofs.LogLaws.{not_so, told_is, op_at, answers_from-at, session_from-more}

-- one more call

kept_by : {X : Type 0} (b : Bool) (x y : X) → MatchBool b (Unit {0}) ⊥ → (if b then x else y) ≡ x
kept_by true x y h = refl
kept_by false x y h = absurd h

-- an answer that is logged goes on the log
pub called_on-logged : (t : Transaction) (o : Op (List ℕ)) (a : Answer) → IsLogged a → called_on t o a ≡ logged t o a
called_on-logged t o a own = kept_by (is_logged a) (logged t o a) t own

-- and a fault does not
pub called_on-fault : (t : Transaction) (o : Op (List ℕ)) (a : Answer) → IsStoreFault a → called_on t o a ≡ t
called_on-fault t o (answer.FaultRead k) fault = refl
called_on-fault t o answer.FaultWrite fault = refl
called_on-fault t o (answer.Damaged k) fault = refl
called_on-fault t o a fault = absurd fault

fault_unlogged : (a : Answer) → IsStoreFault a → IsLogged a → ⊥
fault_unlogged (answer.FaultRead k) fault own = own
fault_unlogged answer.FaultWrite fault own = own
fault_unlogged (answer.Damaged k) fault own = own
fault_unlogged a fault own = fault

-- a fault is lawful only where the call may fail so
pub fault-lawful : (m : Machine) (t : Transaction) (o : Op (List ℕ)) (a : Answer) → IsStoreFault a → (b : Bool)
    → IsTrue b ↔ MayFail m.settings.servers o (due m t o) a
    → IsTrue b ↔ MayCall m t o a
fault-lawful m t o a fault b fails = (
  λ y. inr (fails.0 y),
  λ may. elim may [
    | inl same ↦ absurd (fault_unlogged a fault (subst IsLogged (sym same) (IsLogged-call (cap_of m) (session_after (cap_of m) t.tree t.ops) o)))
    | inr is ↦ fails.1 is
  ],
)

-- the call that is due an answer leaves some session
pub due-called : (cap : ℕ) (s : Session) (o : Op (List ℕ)) (d : Answer) → d ≡ (call cap s o).answer
    → call cap s o ≡ record { session = (call cap s o).session; answer = d }
due-called cap s o d is = ap (λ (a : Answer). record (call cap s o) { answer = a }) (sym is)

-- of a transaction all of whose calls are replayed
pub all_ops : (calls : List Logged) (n : ℕ) → n ≡ length calls → n ≡ length (ops_of calls)
all_ops calls n all = all ∙ sym (length-map calls (λ l. l.op))

module _ (cap : ℕ) (t : Transaction) (o : Op (List ℕ)) (s new : Session) (d : Answer) (all : t.replayed ≡ length t.ops)
    (left : s ≡ session_after cap t.tree (take t.replayed t.ops)) (is : call cap s o ≡ record { session = new; answer = d }) where
  before_call : s ≡ session_after cap t.tree t.ops
  before_call = left ∙ ap (λ n. session_after cap t.tree (take n t.ops)) all ∙ ap (session_after cap t.tree) (take-length t.ops)

  called_so : call cap (session_after cap t.tree t.ops) o ≡ record { session = new; answer = d }
  called_so = ap (λ x. call cap x o) (sym before_call) ∙ is

  -- what a call leaves
  pub call-left : new ≡ session_after cap t.tree (t.ops ++ o ∷ [])
  call-left = sym (session_from-push cap (fresh t.tree) t.ops o ∙ ap (λ (x : Done). x.session) called_so)

  pub call_due : (m : Machine) → cap_of m ≡ cap → due m t o ≡ d
  call_due m most = ap (λ k. (call k (session_after k t.tree t.ops) o).answer) most ∙ ap (λ (x : Done). x.answer) called_so

  -- what may come in place of what is due
  pub call-may : (a : Answer) (servers : ℕ) (b : Bool) → IsTrue b ↔ MayFail servers o d a → (m : Machine) → cap_of m ≡ cap
      → IsTrue b ↔ MayFail servers o (due m t o) a
  call-may a servers b fails m most = subst (λ x. IsTrue b ↔ MayFail servers o x a) (sym (call_due m most)) fails

-- the answer that is due is lawful
pub lawful_due : (m : Machine) (t : Transaction) (o : Op (List ℕ)) (d a : Answer) → due m t o ≡ d → d ≡ a → IsTrue true ↔ MayCall m t o a
lawful_due m t o d a is same = (λ _. inl (sym (is ∙ same)), λ _. refl)

-- and an answer that is no fault is lawful only where it is due
pub other_unlawful : (m : Machine) (t : Transaction) (o : Op (List ℕ)) (d a : Answer)
    → due m t o ≡ d → d ≢ a → (IsStoreFault a → ⊥) → IsTrue false ↔ MayCall m t o a
other_unlawful m t o d a is other sound = (
  λ y. absurd (not_so y),
  λ may. elim may [
    | inl same ↦ absurd (other (sym (same ∙ is)))
    | inr fault ↦ absurd (sound (IsStoreFault-MayFail m.settings.servers o (due m t o) a fault))
  ],
)

-- the session that is kept
pub warm_left : (b : Begun) (w : Workspace) → b.warm ≡ Some w → session_in w ≡ session_after b.cap b.tree (take b.replayed (ops_of b.calls.items))
warm_left b w is = subst (IsWarm b.cap b.tree (ops_of b.calls.items) b.replayed) is b.warm_is

-- what is due is what was told
pub deviates_by : (P Q : Type 0) (b : Bool) (o : Option Answer) (d a : Answer) → o ≡ Some d → IsTrue b ↔ (P × (d ≡ a) × Q) → IsTrue b ↔ (P × (o ≡ Some a) × Q)
deviates_by P Q b o d a at is = (
  λ h. let x = is.0 h in (x.0, at ∙ ap Some x.1, x.2),
  λ x. is.1 (x.0, told_is d a (sym at ∙ x.1), x.2),
)

-- the next call of a replay, on what those before it have left
module _ (cap : ℕ) (tree : Tree) (calls : List Logged) (n : ℕ) (x : Logged) (s new : Session) (d : Answer) (below : n < length calls)
    (at : x ≡ get_or calls n x)
    (left : s ≡ session_after cap tree (take n (ops_of calls))) (is : call cap s x.op ≡ record { session = new; answer = d }) where
  next_done : call cap (session_after cap tree (take n (ops_of calls))) x.op ≡ record { session = new; answer = d }
  next_done = ap (λ y. call cap y x.op) (sym left) ∙ is

  pub next-left : new ≡ session_after cap tree (take (n + 1) (ops_of calls))
  next-left = sym (session_from-more cap (fresh tree) (ops_of calls) n x.op (op_at calls n x below at) ∙ ap (λ (y : Done). y.session) next_done)

  pub next-answers : slice_get (answers_of cap tree (ops_of calls)) n ≡ Some d
  next-answers = answers_from-at cap (fresh tree) (ops_of calls) n x.op (op_at calls n x below at) ∙ ap (λ (y : Done). Some y.answer) next_done
