-- Steps of one client alone, whose calls go on from session to session.
use Rattle.std.proofs.Common.{◌≡◌, ℕ, ◌+◌, ◌*◌, ◌<◌, if◌then◌else◌, List, [], ◌∷◌, ◌++◌, length, Some, None, refl, sym, ap, subst, ◌∙◌, inl}
use Rattle.std.proofs.lemmas.Bool.{lt-leb, eq-eqb}
use Rattle.std.proofs.lemmas.List.{length_push}
use Rattle.std.specs.FinMap.{get, remove, get-insert, get-empty, get-remove}
use Rattle.std.specs.Cmp.{nat_cmp_total}
use Rattle.std.specs.Ordering.{nat_cmp}
use Rattle.wtf_base.specs.declared.settings.Settings.{Settings}
use Rattle.wtf_model.specs.declared.answer.Answer.{Answer}
use Rattle.wtf_model.specs.declared.answer.Answer.TheVariants.{Begun, Committed}
use Rattle.wtf_model.specs.declared.answer.Word.TheVariants.{Full, Replaying}
use Rattle.wtf_model.specs.declared.op.Op.{Op}
use Rattle.wtf_model.specs.declared.event.Verb.TheVariants as verb
use Rattle.wtf_model.specs.Tree.{Tree}
use Rattle.wtf_model.specs.Session.{Session, fresh}
use Rattle.wtf_model.specs.Call.{call}
use Rattle.wtf_model.specs.Items.{writes_of}
use Rattle.wtf_model.specs.Transaction.{Transaction, session_from, answers_from, session_after, answers_of}
use Rattle.wtf_model.specs.Lawful.{client_refusal}
use Rattle.wtf_model.specs.Steps.{is_full, Machine, May, after, start, cap_of, session_of, due, touch, with_transaction, logged, IsLogged}
use Rattle.wtf_model.proofs.Laws.{session_from-push, answers_from-push}
use Rattle.wtf_model.proofs.ItemLaws.{get-each_none}
use Rattle.wtf_model.proofs.StepLaws.{May-client, MayClient-may, after-client, MayClient-asked, MayAsk-asked, IsLogged-call, called-logged, MayCall-logged}
use Rattle.wtf_model.specs.Examples.{asks, calls}

-- the greatest length of a file
abbrev pub cap_with : Settings → ℕ
cap_with settings = 4096 * settings.region

-- no transaction is open
pub record IsIdle (settings : Settings) (number : ℕ) (tree : Tree) (m : Machine) : Type 0 where
  pub settings_are : m.settings ≡ settings
  pub number_is : m.number ≡ number
  pub now : m.now ≡ tree
  pub none : get m.transactions 0 ≡ None

-- client 0 alone has a transaction, whose n calls left the session s; nothing was installed since it began
pub record IsOpen (settings : Settings) (number : ℕ) (tree : Tree) (n : ℕ) (s : Session) (m : Machine) : Type 0 where
  pub t : Transaction
  pub here : get m.transactions 0 ≡ Some t
  pub settings_are : m.settings ≡ settings
  pub number_is : m.number ≡ number
  pub now : m.now ≡ tree
  pub base : t.tree ≡ tree
  pub calls_are : length t.ops ≡ n
  pub live : t.replayed ≡ length t.ops
  pub session : session_after (cap_with settings) tree t.ops ≡ s
  pub shown : answers_of (cap_with settings) tree t.ops ≡ t.shown

pub idle_at_start : (settings : Settings) (number : ℕ) (tree : Tree) → IsIdle settings number tree (start settings number tree)
idle_at_start settings number tree = record {
  settings_are = refl;
  number_is = refl;
  now = refl;
  none = get-empty nat_cmp 0;
}

begun_transaction : Machine → Transaction
begun_transaction m = record { stamp = m.next_stamp; base = m.number; tree = m.now; ops = []; shown = []; replayed = 0; touched = [] }

pub step_begin : (settings : Settings) (number : ℕ) (tree : Tree) (m : Machine) → IsIdle settings number tree m
    → May m (asks verb.Begin) (Begun number) × IsOpen settings number tree 0 (fresh tree) (after m (asks verb.Begin) (Begun number))
unfolding session_from answers_from begun_transaction
step_begin settings number tree m i = (
  May-client m 0 verb.Begin (Begun number) None i.none (ap Begun (sym i.number_is)),
  subst (IsOpen settings number tree 0 (fresh tree)) (sym (after-client m 0 verb.Begin (Begun number) None i.none)) (record {
    t = begun_transaction m;
    here = get-insert nat_cmp_total m.transactions 0 (begun_transaction m) 0;
    settings_are = i.settings_are;
    number_is = i.number_is;
    now = i.now;
    base = i.now;
    calls_are = refl;
    live = refl;
    session = refl;
    shown = refl;
  }),
)

module _ (settings : Settings) (number : ℕ) (tree : Tree) (n : ℕ) (s : Session) (m : Machine) (i : IsOpen settings number tree n s m) where
  pub session_is : session_of m i.t ≡ s
  session_is = ap (λ x. session_after (4096 * x.region) i.t.tree i.t.ops) i.settings_are
      ∙ ap (λ x. session_after (cap_with settings) x i.t.ops) i.base ∙ i.session

  pub due_is : (o : Op (List ℕ)) → due m i.t o ≡ (call (cap_with settings) s o).answer
  due_is o = ap (λ x. (call (4096 * x.region) (session_of m i.t) o).answer) i.settings_are ∙ ap (λ x. (call (cap_with settings) x o).answer) session_is

  pub is_asked : (o : Op (List ℕ)) → n < 4096 → client_refusal (Some i.t) (verb.Call o) ≡ None
  is_asked o room =
      ap (λ b. if b then (if is_full i.t then Some Full else None) else Some Replaying) (eq-eqb i.t.replayed (length i.t.ops) i.live)
      ∙ ap (λ b. if b then Some Full else None) (lt-leb 4096 (length i.t.ops) (subst (λ k. k < 4096) (sym i.calls_are) room))

  tries : client_refusal (Some i.t) verb.Try ≡ None
  tries = ap (λ b. if b then None else Some Replaying) (eq-eqb i.t.replayed (length i.t.ops) i.live)

  pub step_call : (o : Op (List ℕ)) (after_it : Session) (a : Answer) → n < 4096
      → call (cap_with settings) s o ≡ record { session = after_it; answer = a }
      → May m (calls o) a × IsOpen settings number tree (n + 1) after_it (after m (calls o) a)
  step_call o after_it a room is =
      let cap : ℕ = cap_with settings in
      let answered : due m i.t o ≡ a = due_is o ∙ ap (λ d. d.answer) is in
      let safe : IsLogged a = subst (λ d. IsLogged d.answer) is (IsLogged-call cap s o) in
      let so : after m (calls o) a ≡ with_transaction m 0 (logged i.t o a) = after-client m 0 (verb.Call o) a (Some i.t) i.here ∙ called-logged m 0 i.t o a safe in (
        May-client m 0 (verb.Call o) a (Some i.t) i.here (MayClient-asked m (Some i.t) (verb.Call o) a (is_asked o room) (inl (sym answered))),
        subst (IsOpen settings number tree (n + 1) after_it) (sym so) (record {
          t = logged i.t o a;
          here = get-insert nat_cmp_total m.transactions 0 (logged i.t o a) 0;
          settings_are = i.settings_are;
          number_is = i.number_is;
          now = i.now;
          base = i.base;
          calls_are = length_push i.t.ops o ∙ ap (λ k. k + 1) i.calls_are;
          live = ap (λ k. k + 1) i.live ∙ sym (length_push i.t.ops o);
          session = session_from-push cap (fresh tree) i.t.ops o ∙ ap (λ x. (call cap x o).session) i.session ∙ ap (λ d. d.session) is;
          shown = answers_from-push cap (fresh tree) i.t.ops o
              ∙ ap (λ l. l ++ (call cap (session_after cap tree i.t.ops) o).answer ∷ []) i.shown
              ∙ ap (λ x. i.t.shown ++ (call cap x o).answer ∷ []) i.session ∙ ap (λ d. i.t.shown ++ d.answer ∷ []) is;
        }),
      )

  agrees : answers_of (cap_of m) m.now i.t.ops ≡ i.t.shown
  agrees = ap (λ x. answers_of (4096 * x.region) m.now i.t.ops) i.settings_are ∙ ap (λ x. answers_of (cap_with settings) x i.t.ops) i.now ∙ i.shown

  pub step_try : May m (asks verb.Try) (Committed (number + 1)) × IsIdle settings (number + 1) s.tree (after m (asks verb.Try) (Committed (number + 1)))
  step_try = (
    May-client m 0 verb.Try (Committed (number + 1)) (Some i.t) i.here (MayClient-asked m (Some i.t) verb.Try (Committed (number + 1)) tries (ap (λ k. k + 1) (sym i.number_is), agrees)),
    subst (IsIdle settings (number + 1) s.tree) (sym (after-client m 0 verb.Try (Committed (number + 1)) (Some i.t) i.here)) (record {
      settings_are = i.settings_are;
      number_is = refl;
      now = ap (λ x. (session_after (4096 * x.region) m.now i.t.ops).tree) i.settings_are
          ∙ ap (λ x. (session_after (cap_with settings) x i.t.ops).tree) i.now ∙ ap (λ x. x.tree) i.session;
      none = get-each_none (touch (writes_of (cap_of m) m.now i.t.ops)) (remove m.transactions 0) 0 (get-remove nat_cmp_total m.transactions 0 0);
    }),
  )

  -- a commit takes the next number
  pub try_number : (k : ℕ) → May m (asks verb.Try) (Committed k) → k ≡ number + 1
  try_number k h = (MayAsk-asked m (Some i.t) verb.Try (Committed k) tries (MayClient-may m 0 verb.Try (Committed k) (Some i.t) i.here h)).0 ∙ ap (λ k. k + 1) i.number_is

  -- an answer of a call that is logged is the one that is due
  pub call_answer : (o : Op (List ℕ)) (a : Answer) → IsLogged a → n < 4096 → May m (calls o) a → a ≡ (call (cap_with settings) s o).answer
  call_answer o a own room h =
      MayCall-logged m i.t o a own (MayAsk-asked m (Some i.t) (verb.Call o) a (is_asked o room) (MayClient-may m 0 (verb.Call o) a (Some i.t) i.here h)) ∙ due_is o
