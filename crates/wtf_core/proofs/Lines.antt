-- Each line of a client keeps the tables sound, and is the machine's.
-- NSDI 2016, sections 2.6 and 2.7.
use Rattle.wtf_core.proofs.Common.{if◌then◌else◌, nat_le, nat_eq, MatchOption, get, MAX_LOGGED, Answer, Word, Replaying, Full, InTx, NoTx, Live, Op, Verb}
use Rattle.wtf_core.proofs.Common.{Transaction, Machine, client_refusal, MayClient, is_call_refusal, tried, stepped, called, with_transaction, logged}
use Rattle.wtf_core.proofs.Common.{after_client, OpsStandFor-length, Told, TellsOn, TxnView, is_txn_live, is_full, call_refusal, try_refusal, step_refusal}
use Rattle.wtf_core.proofs.Common.{tells_slice, TablesView, of_client, Seeing, AreSound, StandsForTxn, StandsForSlot, TablesStand, AreTrue, Refuses, LoneTurn}
use Rattle.wtf_core.proofs.Common.{TxnTurn, ClientTurn, IsSmall, ◌≡◌, ℕ, Bool, true, false, List, length, Option, None, Some, refl, sym, ap, ◌∙◌, subst, ⊎_elim}
use Rattle.wtf_model.specs.Machines.{is_live as is_live_txn, is_full as is_full_txn}
use Rattle.wtf_core.proofs.Plain.{refuses_stand, begins_stand, calls_stand, fails_stand, aborts_stand}
use Rattle.wtf_core.proofs.Ending.{tries_stand, steps_stand, finals_stand}

-- the refusals of a transaction are those of the machine's
module _ (size : ℕ) (told : Told) (old : TablesView) (m : Machine) (x : TxnView) (t : Transaction) (txn : StandsForTxn size told old.kv m.now x t) where
  -- both have as many calls
  count_is : length x.log.ops ≡ length t.ops
  count_is = OpsStandFor-length (tells_slice told) x.log.ops t.ops txn.sound.ops_are

  -- so both are live, or neither, and both are full, or neither
  live_is : is_txn_live x ≡ is_live_txn t
  live_is = ap (λ n. nat_eq n (length x.log.ops)) (sym txn.replayed) ∙ ap (λ n. nat_eq t.replayed n) count_is

  full_is : is_full x ≡ is_full_txn t
  full_is = ap (λ n. nat_le MAX_LOGGED n) count_is

  -- and an attempt, a step and a call are refused by both with one word, or by neither
  try_is : try_refusal x ≡ client_refusal (Some t) Verb.Try
  try_is = ap (λ b. if b then None else Some Replaying) live_is

  step_is : step_refusal x ≡ client_refusal (Some t) Verb.Step
  step_is = ap (λ b. if b then Some Live else None) live_is

  call_is : (o : Op (List ℕ)) → call_refusal x ≡ client_refusal (Some t) (Verb.Call o)
  call_is o = ap (λ b. if b then (if is_full x then Some Full else None) else Some Replaying) live_is
      ∙ ap (λ b. if is_live_txn t then (if b then Some Full else None) else Some Replaying) full_is

-- a refusal of a transaction is none of a call, so it is not logged
own_word : (b full : Bool) (w : Word) → (if b then (if full then Some Full else None) else Some Replaying) ≡ Some w → is_call_refusal w ≡ false
own_word true true w is = let same : Full ≡ w = cc in subst (λ u. is_call_refusal u ≡ false) same refl
own_word true false w is = absurd (cc)
own_word false full w is = let same : Replaying ≡ w = cc in subst (λ u. is_call_refusal u ≡ false) same refl

-- and the machine is then as it was
not_logged : (m : Machine) (c : ℕ) (t : Transaction) (o : Op (List ℕ)) (a : Answer) (w : Word) → a ≡ Answer.Refused w → is_call_refusal w ≡ false
    → called m c t o a ≡ m
not_logged m c t o a w is own = ap (λ r. called m c t o r) is ∙ ap (λ b. if b then with_transaction m c (logged t o (Answer.Refused w)) else m) own

module _ (z : Seeing) (old new : TablesView) (m : Machine) (c : ℕ) (sound : AreSound old)
    (region : m.settings.region ≡ z.size) (count : m.settings.servers ≡ z.servers) (small : IsSmall m)
    (st : TablesStand z.size z.told old m) (on : TellsOn z.told z.later) (telling : z.telling × AreTrue z.size z.told z.lists old) where
  -- the machine may answer so to a client with this transaction, or none, and the tables stand for what it is then
  abbrev Client : Option Transaction → Verb → Answer → Type 0
  Client o v a = MayClient m o v a × TablesStand z.size z.later new (after_client m c o v a)

  -- a line that is refused leaves the machine
  refused : (w : Word) (a : Answer) → Refuses old new c w a → TablesStand z.size z.later new m
  refused w a turn = refuses_stand old new c w a sound turn z.size z.told z.later m st on

  -- a line is refused by both, or by none
  stands_or : (r q : Option Word) (P Q : Type 0) (a : Answer) (after : Machine) → r ≡ q → (r ≡ None → P → Q × TablesStand z.size z.later new after)
      → ((w : Word) → r ≡ Some w → a ≡ Answer.Refused w → after ≡ m)
      → MatchOption r P (λ w. Refuses old new c w a) → MatchOption q Q (λ w. a ≡ Answer.Refused w) × TablesStand z.size z.later new after
  stands_or None q P Q a after same f g turn =
      let both = f refl turn in
      (subst (λ z. MatchOption z Q (λ w. a ≡ Answer.Refused w)) same both.0, both.1)
  stands_or (Some w) q P Q a after same f g turn = (
    subst (λ z. MatchOption z Q (λ v. a ≡ Answer.Refused v)) same turn.answer,
    subst (λ u. TablesStand z.size z.later new u) (sym (g w refl turn.answer)) (refused w a turn),
  )

  -- a line of a client without a transaction
  lone_stands : (v : Verb) (a : Answer) → of_client old.clients c ≡ None → LoneTurn z old new c v a → Client None v a
  lone_stands Verb.Begin a here turn = begins_stand old new c a sound here turn z.size z.told z.later m st on
  lone_stands e a here turn = (turn.answer, refused NoTx a turn)

  -- a line of a client with one, for which the machine has one too
  txn_stands : (x : TxnView) (t : Transaction) (v : Verb) (a : Answer) → of_client old.clients c ≡ Some x → get m.transactions c ≡ Some t
      → StandsForTxn z.size z.told old.kv m.now x t → TxnTurn z old new c x v a → Client (Some t) v a
  txn_stands x t Verb.Begin a here there txn turn = (turn.answer, refused InTx a turn)
  txn_stands x t Verb.Try a here there txn turn = stands_or (try_refusal x) (client_refusal (Some t) Verb.Try) _ _ a (tried m c t a)
      (try_is z.size z.told old m x t txn)
      (λ asked tries. tries_stand z.size z.told z.later old new m c x t a sound region small st on here there asked tries)
      (λ w is e. ap (λ r. tried m c t r) e) turn
  txn_stands x t Verb.Step a here there txn turn =
      stands_or (step_refusal x) (client_refusal (Some t) Verb.Step) _ _ a (stepped m c t a) (step_is z.size z.told old m x t txn)
      (λ asked steps. steps_stand z old new m c x t a sound region count st on here there asked telling steps)
      (λ w is e. ap (λ r. stepped m c t r) e) turn
  txn_stands x t Verb.Commit a here there txn turn = finals_stand z old new m c x t a sound region count small st on here there
      telling turn
  txn_stands x t Verb.Abort a here there txn turn = aborts_stand old new c x a sound here turn z.size z.told z.later m t st on
  txn_stands x t (Verb.Call o) a here there txn turn =
      stands_or (call_refusal x) (client_refusal (Some t) (Verb.Call o)) _ _ a (called m c t o a) (call_is z.size z.told old m x t txn o)
      (λ asked t2. ⊎_elim
      (λ calls. calls_stand z old new c x o a sound here calls m t region st on there asked telling)
      (λ fails. fails_stand z old new c x o a sound here fails m t region count st on there asked) t2)
      (λ w is e. not_logged m c t o a w e (own_word (is_txn_live x) (is_full x) w is)) turn

  -- a line of either; no client has one in the tables alone, or in the machine alone
  slot_stands : (s : Option TxnView) (o : Option Transaction) (v : Verb) (a : Answer) → of_client old.clients c ≡ s → get m.transactions c ≡ o
      → StandsForSlot z.size z.told old.kv m.now s o → MatchOption s (LoneTurn z old new c v a) (λ x. TxnTurn z old new c x v a) →
      Client o v a
  slot_stands None None v a here there slot turn = lone_stands v a here turn
  slot_stands None (Some t) v a here there slot turn = absurd slot
  slot_stands (Some x) None v a here there slot turn = absurd slot
  slot_stands (Some x) (Some t) v a here there slot turn = txn_stands x t v a here there slot turn

-- and the machine may answer so, and the tables stand for what it then is
pub client_stands : (z : Seeing) (old new : TablesView) (m : Machine) (c : ℕ) (v : Verb)
    (a : Answer)
    → AreSound old → m.settings.region ≡ z.size → m.settings.servers ≡ z.servers → IsSmall m → TablesStand z.size z.told old m
    → TellsOn z.told z.later → z.telling × AreTrue z.size
    z.told z.lists old
    → ClientTurn z old new c v a → MayClient m (get m.transactions c) v a × TablesStand z.size z.later new (after_client m c (get m.transactions c) v a)
client_stands z old new m c v a sound region count small st on telling turn =
    let slot = st.each c in slot_stands z old new m c sound region count small st on telling (of_client old.clients c) (get m.transactions c) v a
    refl refl slot turn
