-- Lines that are refused, that begin a transaction or log a call, and aborts: the tables stay sound and stand for the machine.
-- NSDI 2016, section 2.6.
use Rattle.wtf_core.proofs.Common.{if◌then◌else◌, append_cancel_left, Op, session_after, with_transaction, get-number_same, get-number_other, answers_from-push}
use Rattle.wtf_core.proofs.Common.{MatchBool, answers_of, is_logged, with_call, LogStands, caller_at, TablesView, of_client, SinceBase, CallFails, since_none}
use Rattle.wtf_core.proofs.Common.{take-length, length_push, versions_of, call_refusal, metadata_now, StandsForTxn, StandsForSlot, Stands-later, begins_turned}
use Rattle.wtf_core.proofs.Common.{eqb-true, key_cmp, Session, Machine, MayCall, MayFail, IsLogged, aborted, cap_for, TellsOn, AreSound, sets_same, fault_is, ℕ}
use Rattle.wtf_core.proofs.Common.{get, Key, due, ◌≡◌, ◌+◌, ◌*◌, ◌++◌, Bool, true, take, List, [], ◌∷◌, None, Some, refl, sym, ap, ◌∙◌, inl, inr}
use Rattle.wtf_core.proofs.Common.{InodeId, MAX_REGIONS, Transaction, metadata_at, is_txn_live, TablesStand, stands_kept, before_none, keeps_stays, stays_stand}
use Rattle.wtf_core.proofs.Common.{Store, Inode, Value, Word, NoTx, Verb, fresh, Tree, call, Told, seen, Holds, begun, IsFit, Calls, Ends, false, subst, arith}
use Rattle.wtf_core.proofs.Common.{Answer, cap_of, MayAsk, logged, called, Caller, Stands, TxnView, at_base, Seeing, AreTrue, Refuses, Begins, IsFault, length}
use Rattle.wtf_model.specs.Steps.{begun as machine_begun}
use Rattle.wtf_core.proofs.{Machines.cap_is, Ending.txn_in, Ending.done_all, Ending.leaves_stand, Ending.goes_stand}

-- ---- a line that is refused
module _ (old new : TablesView) (c : ℕ) (w : Word) (a : Answer) (sound : AreSound old) (refuses : Refuses old new c w a) where
  -- and they stand for the machine as it was
  pub refuses_stand : (size : ℕ) (told later : Told) (m : Machine) → TablesStand size told old m → TellsOn told later → TablesStand size later new m
  refuses_stand size told later m st on = stays_stand old new c sound (keeps_stays old new c refuses.keeps) size told later m st on

-- tables that stay stand for the same over stores that tell more
pub tables_later : (size : ℕ) (told later : Told) (tables : TablesView) (m : Machine) → AreSound tables → TablesStand size told tables m → TellsOn told later
    → TablesStand size later tables m
tables_later size told later tables m sound stands on =
    refuses_stand tables tables 0 NoTx (Answer.Refused NoTx) sound
    (record { answer = refl; keeps = record { clients = sets_same 0 tables.clients tables.clients refl; kv = refl; next_tx = refl; beside = refl } })
    size told later m stands on

-- ---- a transaction begins
module _ (old new : TablesView) (c : ℕ) (a : Answer) (sound : AreSound old) (none : of_client old.clients c ≡ None) (begins : Begins old new c a) where
  -- the machine may answer so, and they stand for it with a transaction that begins on the tree now
  pub begins_stand : (size : ℕ) (told later : Told) (m : Machine) → TablesStand size told old m → TellsOn told later
      → MayAsk m None Verb.Begin a × TablesStand size later new (machine_begun m c a)
  begins_stand size told later m st on =
      let x : TxnView = begun old.next_tx old.kv.number in
      let t : Transaction = record { stamp = m.next_stamp; base = m.number; tree = m.now; ops = []; shown = []; replayed = 0; touched = [] } in
      let after : Machine = machine_begun m c (Answer.Begun old.kv.number) in
      let map : (n : ℕ) → metadata_at new.kv n ≡ metadata_at old.kv n = λ n. ap (λ (k : Store Key Value). metadata_at k n) begins.kv in
      let number : new.kv.number ≡ old.kv.number = ap (λ (k : Store Key Value). k.number) begins.kv in
      let now_is : metadata_now new.kv ≡ metadata_now old.kv = ap (λ (k : Store Key Value). metadata_now k) begins.kv in
      let fresh_tree : Stands size later old.next_tx 0 (metadata_now old.kv) m.now =
      Stands-later told later on size old.next_tx 0 (metadata_now old.kv) m.now (st.later old.next_tx (omega arith)) in
      let unseen : (i : InodeId) → i.tx.0 ≡ old.next_tx → metadata_now new.kv (Inode i) ≡ None = λ i mine.
      ap (λ w. w (Inode i)) now_is ∙ before_none old.next_tx (metadata_now old.kv) st.before i mine in
      let stands : StandsForTxn size later new.kv m.now x t = record {
        sound = begins.sound size later;
        base = st.number;
        shown = refl;
        replayed = refl;
        tree = subst (λ v. Stands size later old.next_tx 0 v m.now) (sym (map old.kv.number)) fresh_tree;
        now = subst (λ v. Stands size later old.next_tx 0 v m.now) (sym now_is) fresh_tree;
        since = subst (λ n. SinceBase new.kv old.next_tx n []) number (since_none new.kv old.next_tx unseen);
      } in (
        begins.answer ∙ ap Answer.Begun (sym st.number),
        subst (λ r. TablesStand size later new (machine_begun m c r)) (sym begins.answer)
            (stands_kept size told later old new m after c (Some x) sound st on (begins_turned old new c a sound none begins) number
            (λ q. ap (λ (k : Store Key Value). versions_of key_cmp k q) begins.kv)
            (λ d other. get-number_other m.transactions c t d other) refl refl refl refl
            (subst (λ o. StandsForSlot size later new.kv m.now (Some x) o) (sym (get-number_same m.transactions c t)) stands)),
      )

-- ---- a call
-- a test that holds is true
is_true_of : (b : Bool) → MatchBool b (Unit {0}) ⊥ → b ≡ true
is_true_of true h = refl
is_true_of false h = absurd h

-- a call is made where all before it are done
made_live : (b : Bool) (full : Bool) (u v : Word) → (if b then (if full then Some u else None) else Some v) ≡ None → b ≡ true
made_live true full u v h = refl
made_live false full u v h = absurd (cc)

call_live : (x : TxnView) → call_refusal x ≡ None → x.replayed ≡ length x.log.ops
call_live x h = eqb-true x.replayed (length x.log.ops) (made_live (is_txn_live x) _ _ _ h)

-- the last of equal lists
last_same : {A : Type 0} (xs : List A) (x y : A) → xs ++ x ∷ [] ≡ xs ++ y ∷ [] → x ≡ y
last_same xs x y same = let ends : x ∷ [] ≡ y ∷ [] = append_cancel_left xs (x ∷ []) (y ∷ []) same in cc

-- calls that answer so, the last of them too
last_answer : (cap : ℕ) (tree : Tree) (ops : List (Op (List ℕ))) (shown : List Answer) (o : Op (List ℕ)) (a : Answer)
    → answers_of cap tree ops ≡ shown → answers_of cap tree (ops ++ o ∷ []) ≡ shown ++ a ∷ [] → a ≡ (call cap (session_after cap tree ops) o).answer
last_answer cap tree ops shown o a before all =
    last_same shown a (call cap (session_after cap tree ops) o).answer
    (sym all ∙ answers_from-push cap (fresh tree) ops o ∙ ap (λ l. l ++ (call cap (session_after cap tree ops) o).answer ∷ []) before)

-- all of the calls answer what was shown, where all are done
all_answers : (size : ℕ) (kv : Store Key Value) (told : Told) (x : TxnView) (ops : List (Op (List ℕ))) (tree : Tree) → LogStands size kv told x ops → IsFit kv x
    → x.replayed ≡ length x.log.ops → Stands size told x.tx 0 (metadata_at kv x.at.base) tree → answers_of (MAX_REGIONS * size) tree ops ≡ x.log.shown
all_answers size kv told x ops tree sound fit live stands =
    let cap : ℕ = MAX_REGIONS * size in
    let ran = at_base size kv told x ops sound tree stands in
    let shown : x.replayed ≡ length x.log.shown = live ∙ sym fit.log.answers in
    let done : take x.replayed ops ≡ ops = done_all size kv told x ops sound live in
    ap (answers_of cap tree) (sym done) ∙ ran.answers ∙ ap (λ n. take n x.log.shown) shown ∙ take-length x.log.shown

-- a machine that logs what is logged
called_is : (m : Machine) (c : ℕ) (t : Transaction) (o : Op (List ℕ)) (a : Answer) → IsLogged a → called m c t o a ≡ with_transaction m c (logged t o a)
called_is m c t o a h = ap (λ b. if b then with_transaction m c (logged t o a) else m) (is_true_of (is_logged a) h)

module _ (z : Seeing) (old new : TablesView) (c : ℕ) (x : TxnView) (o : Op (List ℕ))
    (a : Answer) (sound : AreSound old) (here : of_client old.clients c ≡ Some x) (calls : Calls z old new c x o a) where
  -- the answer is due to the machine's transaction, which logs it too
  pub calls_stand : (m : Machine) (t : Transaction) → m.settings.region ≡ z.size → TablesStand z.size z.told old m → TellsOn z.told z.later
      → get m.transactions c ≡ Some t → call_refusal x ≡ None
      → z.telling × AreTrue z.size z.told z.lists old → MayCall m t o a × TablesStand z.size z.later new (called m c t o a)
  calls_stand m t region st on there asked telling =
      let y : TxnView = calls.later_one in
      let is = calls.called.logged in
      let txn = txn_in z.size z.told old m c x t st here there in
      let fit : IsFit old.kv x = (sound.each c x here).fit in
      let live = call_live x asked in
      let calls_are : LogStands z.size old.kv z.later y (t.ops ++ o ∷ []) = calls.sound (telling.0, telling.1, txn.tree.bytes) t.ops txn.sound in
      let log : y.log ≡ with_call x.log calls.called.kept a = is.log in
      let shown : y.log.shown ≡ x.log.shown ++ a ∷ [] = ap (λ l. l.shown) log in
      let live2 : y.replayed ≡ length y.log.ops = is.replayed ∙ ap (λ n. n + 1) live ∙ sym (length_push x.log.ops calls.called.kept)
      ∙ ap (λ l. length l.ops) (sym log) in
      let cap : cap_of m ≡ MAX_REGIONS * z.size = cap_is m z.size region in
      let tree : Stands z.size z.later y.tx 0 (metadata_at old.kv y.at.base) t.tree =
      subst (λ n. Stands z.size z.later n 0 (metadata_at old.kv y.at.base) t.tree) (sym is.tx)
      (subst (λ b. Stands z.size z.later x.tx 0 (metadata_at old.kv b) t.tree) (sym is.grows.base)
      (Stands-later z.told z.later on z.size x.tx 0 (metadata_at old.kv x.at.base) t.tree txn.tree)) in
      let before : answers_of (MAX_REGIONS * z.size) t.tree t.ops ≡ x.log.shown = all_answers z.size old.kv z.told x t.ops t.tree txn.sound fit live txn.tree in
      let all : answers_of (MAX_REGIONS * z.size) t.tree (t.ops ++ o ∷ []) ≡ x.log.shown ++ a ∷ [] = all_answers z.size old.kv z.later y
      (t.ops ++ o ∷ []) t.tree calls_are calls.fit live2 tree ∙ shown in
      let is_due : a ≡ due m t o = subst (λ k. a ≡ (call k (session_after k t.tree t.ops) o).answer) (sym cap)
      (last_answer (MAX_REGIONS * z.size) t.tree t.ops x.log.shown o a before all) in (
        inl is_due,
        subst (λ u. TablesStand z.size z.later new u) (sym (called_is m c t o a is.answer))
            (goes_stand old new c x y sound here calls.keeps is.tx is.grows.base is.ended calls.fit z.size z.told z.later m t (logged t o a) st on there
            calls_are refl refl refl (ap (λ l. l ++ a ∷ []) txn.shown ∙ sym shown) (ap (λ n. n + 1) txn.replayed ∙ sym is.replayed)),
      )

-- a fault is answered: it is not logged
fault_unlogged : (a : Answer) → IsFault a → is_logged a ≡ false
fault_unlogged (Answer.FaultRead k) h = refl
fault_unlogged Answer.FaultWrite h = refl
fault_unlogged (Answer.FaultPunch k) h = refl
fault_unlogged (Answer.Damaged k) h = refl
fault_unlogged a h = absurd h

-- what the calls that are done have left of the tree at the base is what the next call runs on
module _ (size : ℕ) (kv : Store Key Value) (told : Told) (x : TxnView) (t : Transaction) (sound : LogStands size kv told x t.ops)
    (live : x.replayed ≡ length x.log.ops) (stands : Stands size told x.tx 0 (metadata_at kv x.at.base) t.tree) where
  pub next_may : (servers : ℕ) (o : Op (List ℕ)) (a : Answer)
      → ((y : Caller) (u : Told) (S : Session) → y.size ≡ size → Stands y.size u y.tx y.calls (seen kv x.at) S.tree → Holds u (seen kv x.at) x.session S
      → MayFail servers o (call (cap_for y) S o).answer a)
      → MayFail servers o (call (MAX_REGIONS * size) (session_after (MAX_REGIONS * size) t.tree t.ops) o).answer a
  next_may servers o a may =
      let ran = at_base size kv told x t.ops sound t.tree stands in
      subst (λ ops. MayFail servers o (call (MAX_REGIONS * size) (session_after (MAX_REGIONS * size) t.tree ops) o).answer a)
      (done_all size kv told x t.ops sound live) (may (caller_at size x.tx (length (take x.replayed t.ops))) told
      (session_after (MAX_REGIONS * size) t.tree (take x.replayed t.ops)) refl ran.stands ran.holds)

module _ (z : Seeing) (old new : TablesView) (c : ℕ) (x : TxnView) (o : Op (List ℕ))
    (a : Answer) (sound : AreSound old) (here : of_client old.clients c ≡ Some x) (fails : CallFails z old new c x o a) where
  -- a call that failed: the machine may answer so, and is then as it was
  pub fails_stand : (m : Machine) (t : Transaction) → m.settings.region ≡ z.size → m.settings.servers ≡ z.servers → TablesStand z.size z.told old m
      → TellsOn z.told z.later → get m.transactions c ≡ Some t → call_refusal x ≡ None → MayCall m t o a × TablesStand z.size z.later new (called m c t o a)
  fails_stand m t region count st on there asked =
      let txn = txn_in z.size z.told old m c x t st here there in
      let cap : cap_of m ≡ MAX_REGIONS * z.size = cap_is m z.size region in
      let may = next_may z.size old.kv z.told x t txn.sound (call_live x asked) txn.tree z.servers o a fails.may in
      let same : called m c t o a ≡ m = ap (λ b. if b then with_transaction m c (logged t o a) else m)
      (fault_unlogged a (fault_is fails.fails.why a fails.fails.answer)) in (
        inr (subst (λ k. MayFail m.settings.servers o (call k (session_after k t.tree t.ops) o).answer a) (sym cap)
            (subst (λ n. MayFail n o (call (MAX_REGIONS * z.size) (session_after (MAX_REGIONS * z.size) t.tree t.ops) o).answer a) (sym count) may)),
        subst (λ u. TablesStand z.size z.later new u) (sym same) (stays_stand old new c sound fails.fails.stays z.size z.told z.later m st on),
      )

-- ---- an abort
module _ (old new : TablesView) (c : ℕ) (x : TxnView) (a : Answer) (sound : AreSound old) (here : of_client old.clients c ≡ Some x)
    (aborts : (a ≡ Answer.Okay) × Ends old new old.kv c x) where
  -- and the machine ends the transaction too
  pub aborts_stand : (size : ℕ) (told later : Told) (m : Machine) (t : Transaction) → TablesStand size told old m → TellsOn told later
      → MayAsk m (Some t) Verb.Abort a × TablesStand size later new (aborted m c a)
  aborts_stand size told later m t st on = (
    aborts.0,
    subst (λ r. TablesStand size later new (aborted m c r)) (sym aborts.0)
        (leaves_stand old new old.kv c x sound here (omega arith) aborts.1 size told later m st on refl (λ q. refl)),
  )
