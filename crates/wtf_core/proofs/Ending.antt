-- Attempts, replayed steps, commits and ends keep what the tables stand for.
-- NSDI 2016, sections 2.6 and 2.7.
use Rattle.wtf_core.proofs.Common.{take-length, eqb-true, if◌then◌else◌, option_map, get, remove, len, InodeId, Store, versions_of, version_of, Key, Inode}
use Rattle.wtf_core.proofs.Common.{Value, key_cmp, Answer, Aborted', Item, Tree, Transaction, answers_of, session_after, Machine, cap_of, Replaying, Op, meets}
use Rattle.wtf_core.proofs.Common.{reads_of, writes_of, Deviates, IsDone, IsReadFault, MayInstall, MayTry, MayStep, MayCommit, with_transaction, ended, touch}
use Rattle.wtf_core.proofs.Common.{touch_job, with_each, installed, tried, stepped, committed, get-number_same, get-number_other, get-each, get-each_none}
use Rattle.wtf_core.proofs.Common.{MAX_LOGGED, len-session_after, OpsStandFor-length, OpsStandFor-form, Map, with, metadata_at, Told, Stands, TellsOn, cap_for}
use Rattle.wtf_core.proofs.Common.{Feet, TxnView, is_txn_live, IsFit, IsLog, try_refusal, step_refusal, LogStands, tells_slice, caller_at, IsFinal}
use Rattle.wtf_core.proofs.Common.{KeepsVersions, sound_later, final_ran, at_base, TablesView, of_client, metadata_now, Seeing, AreSound, SinceBase}
use Rattle.wtf_core.proofs.Common.{StandsForTxn, StandsForSlot, TablesStand, AreTrue, SetsClientAlone, Ends, Retries, Tries, Replays, Aborts, StepFails}
use Rattle.wtf_core.proofs.Common.{Finishes, GivesUp, StepTurn, Finals, before_same, before_own, Stands-later, has_none, since_none, touched_installed}
use Rattle.wtf_core.proofs.Common.{since_installed, retry_met, Turned, stands_turned, stands_kept, ends_turned, retry_turned, stays_stand, goes_turned, IsSmall}
use Rattle.wtf_core.proofs.Common.{◌≡◌, ◌≢◌, suc, ◌≤◌, ◌<◌, ◌^◌, ℕ, ◌+◌, ◌-◌, Bool, true, false, List, [], length, take, None, Some, refl, sym, ap, ◌∙◌, subst}
use Rattle.wtf_core.proofs.Common.{arith, slice_get, commit_up, ends_map, ends_number, retry_base, retry_tx}
use Rattle.wtf_model.specs.Steps.{rebased as machine_rebased}
use Rattle.wtf_core.proofs.Machines.{gone_here, gone_there, cap_is, answer_shown}

-- ---- one client's transaction

-- where the tables stand for the machine, so does a client's transaction
pub txn_in : (size : ℕ) (told : Told) (old : TablesView) (m : Machine) (c : ℕ) (x : TxnView) (t : Transaction) → TablesStand size told old m
    → of_client old.clients c ≡ Some x → get m.transactions c ≡ Some t → StandsForTxn size told old.kv m.now x t
txn_in size told old m c x t st here there =
    subst (λ o. StandsForSlot size told old.kv m.now (Some x) o) there
    (subst (λ s. StandsForSlot size told old.kv m.now s (get m.transactions c)) here (st.each c))

-- an attempt is not refused where all calls are done
try_live : (x : TxnView) → try_refusal x ≡ None → x.replayed ≡ length x.log.ops
try_live x asked = eqb-true x.replayed (length x.log.ops) (by (is_txn_live x) asked)
  where
    by : (b : Bool) → (if b then None else Some Replaying) ≡ None → b ≡ true
    by true h = refl
    by false h = absurd (cc)

-- where they are, the first of the calls are all of them
pub done_all : (size : ℕ) (kv : Store Key Value) (told : Told) (x : TxnView) (ops : List (Op (List ℕ))) → LogStands size kv told x ops
    → x.replayed ≡ length x.log.ops → take x.replayed ops ≡ ops
done_all size kv told x ops sound live = ap (λ n. take n ops) (live ∙ OpsStandFor-length (tells_slice told) x.log.ops ops sound.ops_are) ∙ take-length ops

-- a map stands for its tree for another transaction too, where it has none of its inodes, and the tree has few paths
stands_other : (b : ℕ) (told : Told) (tx other k : ℕ) (w : Map) (t : Tree) → Stands b told tx k w t
    → ((i : InodeId) → i.tx.0 ≡ other → 0 < i.index → w (Inode i) ≡ None) → len t < 2 ^ 63 → Stands b told other 0 w t
stands_other b told tx other k w t st none small = record {
  tree_is = st.tree_is;
  nodes = st.nodes;
  names = st.names;
  led = st.led;
  regions = st.regions;
  counted = st.counted;
  bytes = st.bytes;
  fresh = none;
  few = omega (arith, small);
}

-- a small tree on which the calls of a transaction ran has few paths
few_behind : (size : ℕ) (told : Told) (kv : Store Key Value) (now : Tree) (x : TxnView) (t : Transaction) (cap : ℕ) → IsLog x.log
    → StandsForTxn size told kv now x t → len now < 2 ^ 61 → len (session_after cap now t.ops).tree < 2 ^ 63
few_behind size told kv now x t cap log txn small =
    let form = OpsStandFor-form (tells_slice told) x.log.ops t.ops log.form txn.sound.ops_are in
    let more : len (session_after cap now t.ops).tree ≤ len now + length t.ops = len-session_after cap now t.ops form txn.now.tree_is in
    let same : length x.log.ops ≡ length t.ops = OpsStandFor-length (tells_slice told) x.log.ops t.ops txn.sound.ops_are in
    let most : length x.log.ops ≤ MAX_LOGGED = log.few in
    omega (arith, small, more, same, most)

-- ---- a transaction that has ended
module _ (old new : TablesView) (mid : Store Key Value) (c : ℕ) (x : TxnView) (sound : AreSound old) (here : of_client old.clients c ≡ Some x)
    (up : old.kv.number ≤ mid.number) (ends : Ends old new mid c x) where
  -- the number is what the transaction left
  number_left : new.kv.number ≡ mid.number
  number_left = ends_number old new mid c x sound here up ends

  -- and so is the map now
  ends_now : metadata_now new.kv ≡ metadata_now mid
  ends_now = ap (λ n. metadata_at new.kv n) number_left ∙ ends_map old new mid c x sound here up ends mid.number

  -- a transaction ends, with its pin
  end_turned : Turned old new c None
  end_turned = ends_turned old new mid c x sound here up ends

  -- and each key has the versions that it left
  ends_versions : KeepsVersions mid new.kv
  ends_versions q = ap (λ (s : Store Key Value). versions_of key_cmp s q) ends.kv

  -- an end that leaves the tree as it was
  pub leaves_stand : (size : ℕ) (told later : Told) (m : Machine) → TablesStand size told old m → TellsOn told later → mid.number ≡ old.kv.number
      → KeepsVersions old.kv mid → TablesStand size later new (ended m c)
  leaves_stand size told later m st on same versions =
      stands_kept size told later old new m (ended m c) c None sound st on end_turned (number_left ∙ same) (λ q. ends_versions q ∙ versions q)
      (λ d ne. gone_there m.transactions c d ne) refl refl refl refl
      (subst (λ o. StandsForSlot size later new.kv m.now None o) (sym (gone_here m.transactions c)) tt)

  -- an install: the calls run on the tree now, and what they change is touched
  pub installs_stand : (size : ℕ) (told later : Told) (m : Machine) (t : Transaction) (n : ℕ) → IsSmall m → TablesStand size told old m → TellsOn told later
      → m.settings.region ≡ size → get m.transactions c ≡ Some t
      → IsFinal size later old.kv mid x t.ops n → MayInstall m t n × TablesStand size later new (installed m c t n)
  installs_stand size told later m t n small st on region there final =
      let txn = txn_in size told old m c x t st here there in
      let was : Stands size later x.tx 0 (metadata_now old.kv) m.now = Stands-later told later on size x.tx 0 (metadata_now old.kv) m.now txn.now in
      let ran = final_ran size later old.kv mid x t.ops n final m.now was in
      let changed : Map = with final.at.changes (metadata_now old.kv) in
      let map : metadata_now new.kv ≡ changed = ends_now ∙ ap (λ k. metadata_at mid k) final.number ∙ final.map in
      let cap : cap_of m ≡ _ = cap_is m size region in
      let now : Tree = (session_after (cap_of m) m.now t.ops).tree in
      let read : List Item = reads_of (cap_of m) m.now t.ops in
      let wrote : List Item = writes_of (cap_of m) m.now t.ops in
      let stands : Stands size later x.tx (length t.ops) changed now =
      subst (λ k. Stands size later x.tx (length t.ops) changed (session_after k m.now t.ops).tree) (sym cap) ran.stands in
      let feet : Feet x.tx (metadata_now old.kv) final.at.reads final.at.changes read wrote =
      subst (λ k. Feet x.tx (metadata_now old.kv) final.at.reads final.at.changes (reads_of k m.now t.ops) (writes_of k m.now t.ops)) (sym cap)
      (final.run.feet later (metadata_now old.kv) m.now final.agree final.fits final.told_are final.lists_are was) in
      let gone : get (with_each (touch wrote) (remove m.transactions c)) c ≡ None =
      get-each_none (touch wrote) (remove m.transactions c) c (gone_here m.transactions c) in (
        (final.next ∙ ap (λ k. k + 1) (sym st.number), ap (λ k. answers_of k m.now t.ops) cap ∙ ran.answers ∙ sym txn.shown),
        stands_turned size told later old new m (installed m c t n) c None wrote sound st on end_turned
            (λ d ne. get-each (touch wrote) (remove m.transactions c) d ∙ ap (option_map (touch wrote)) (gone_there m.transactions c d ne))
            (λ d y items ne its since. since_installed x.tx old.kv new.kv final.at.reads final.at.changes n read wrote feet ran.own
            (has_none _ _ _ _ _ _ txn.now) (has_none _ _ _ _ _ _ stands) map
            (λ q. ends_versions q ∙ final.versions q) y.tx y.at.base items
            (λ same. ne (sound.apart d c y x its here same))
            (end_turned.maps y.at.base (sound.each d y its).based) since)
            (λ l. get-each (touch_job wrote) m.jobs l)
            (λ base items based was. touched_installed x.tx old.kv new.kv final.at.reads final.at.changes n read wrote feet ran.own
            (has_none _ _ _ _ _ _ txn.now) (has_none _ _ _ _ _ _ stands) map
            (λ q. ends_versions q ∙ final.versions q) base items (end_turned.maps base based) was)
            (sym (number_left ∙ final.number)) refl (before_same old.next_tx new.next_tx changed (metadata_now new.kv) map end_turned.more
            (before_own x.tx old.next_tx (metadata_now old.kv) changed (sound.each c x here).older ran.own st.before))
            (subst (λ o. StandsForSlot size later new.kv now None o) (sym gone) tt)
            (λ tx other was.
            subst (λ w. Stands size later tx 0 w now) (sym map) (stands_other size later x.tx tx (length t.ops) changed now stands
            (λ i own some. ran.own i (λ e. other x here (sym own ∙ e)) (was.fresh i own some))
            (few_behind size told old.kv m.now x t (cap_of m) (sound.each c x here).fit.log txn small))),
      )

-- ---- a transaction that goes on at its base
module _ (old new : TablesView) (c : ℕ) (x y : TxnView) (sound : AreSound old) (here : of_client old.clients c ≡ Some x)
    (keeps : SetsClientAlone old new c (Some y)) (tx : y.tx ≡ x.tx) (base : y.at.base ≡ x.at.base) (going : y.ended ≡ x.ended) (fit : IsFit old.kv y) where
  -- the tables stand for the machine with this transaction, where that has the base and the tree that it had
  pub goes_stand : (size : ℕ) (told later : Told) (m : Machine) (t t2 : Transaction) → TablesStand size told old m → TellsOn told later
      → get m.transactions c ≡ Some t → LogStands size old.kv later y t2.ops → t2.base ≡ t.base → t2.tree ≡ t.tree → t2.touched ≡ t.touched
      → t2.shown ≡ y.log.shown → t2.replayed ≡ y.replayed → TablesStand size later new (with_transaction m c t2)
  goes_stand size told later m t t2 st on there run base2 tree2 touched2 shown2 replayed2 =
      let txn = txn_in size told old m c x t st here there in
      let tree : Stands size told y.tx 0 (metadata_at old.kv y.at.base) t2.tree =
      subst (λ k. Stands size told k 0 (metadata_at old.kv y.at.base) t2.tree) (sym tx)
      (subst (λ b. Stands size told x.tx 0 (metadata_at old.kv b) t2.tree) (sym base)
      (subst (λ u. Stands size told x.tx 0 (metadata_at old.kv x.at.base) u) (sym tree2) txn.tree)) in
      let now : Stands size told y.tx 0 (metadata_now old.kv) m.now = subst (λ k. Stands size told k 0 (metadata_now old.kv) m.now) (sym tx) txn.now in
      let stands : StandsForTxn size later old.kv m.now y t2 = record {
        sound = run;
        base = base2 ∙ txn.base ∙ sym base;
        shown = shown2;
        replayed = replayed2;
        tree = Stands-later told later on size y.tx 0 (metadata_at old.kv y.at.base) t2.tree tree;
        now = Stands-later told later on size y.tx 0 (metadata_now old.kv) m.now now;
        since = subst (λ l. SinceBase old.kv y.tx y.at.base l) (sym touched2)
            (subst (λ b. SinceBase old.kv y.tx b t.touched) (sym base) (subst (λ k. SinceBase old.kv k x.at.base t.touched) (sym tx) txn.since));
      } in
      stands_kept size told later old new m (with_transaction m c t2) c (Some y) sound st on (goes_turned old new c x y sound here keeps tx base going fit)
      (ap (λ (s : Store Key Value). s.number) keeps.kv) (λ q. ap (λ (s : Store Key Value). versions_of key_cmp s q) keeps.kv)
      (λ d ne. get-number_other m.transactions c t2 d ne) refl refl refl refl
      (subst (λ o. StandsForSlot size later new.kv m.now (Some y) o) (sym (get-number_same m.transactions c t2))
      (subst (λ kv. StandsForTxn size later kv m.now y t2) (sym keeps.kv) stands))

-- ---- a transaction that begins again at the number
module _ (old new : TablesView) (c : ℕ) (x : TxnView) (b n : ℕ) (sound : AreSound old) (here : of_client old.clients c ≡ Some x)
    (turn : Retries old new c x b n) where
  -- the transaction with its log, and nothing done
  abbrev again : TxnView
  again = turn.later

  based : again.at.base ≡ n
  based = retry_base old new c x b n sound here turn

  -- the map now stays
  retry_now : metadata_now new.kv ≡ metadata_now old.kv
  retry_now = ap (λ k. metadata_at new.kv k) turn.retried.number ∙ turn.maps old.kv.number (omega arith)

  -- and is what its new base shows
  retry_map : metadata_at new.kv again.at.base ≡ metadata_now old.kv
  retry_map = ap (λ k. metadata_at new.kv k) (based ∙ turn.retried.number_is) ∙ turn.maps old.kv.number (omega arith)

  -- nothing was touched since
  retry_since : (none : (i : InodeId) → i.tx.0 ≡ x.tx → metadata_now old.kv (Inode i) ≡ None) → SinceBase new.kv again.tx again.at.base []
  retry_since none =
      subst (λ k. SinceBase new.kv again.tx k []) (sym (based ∙ turn.retried.number_is ∙ sym turn.retried.number))
      (since_none new.kv again.tx (λ i mine. ap (λ w. w (Inode i)) retry_now ∙ none i (mine ∙ (retry_tx old new c x b n sound here turn))))

  -- others have touched what the calls read, and the machine's transaction begins again on the tree now
  retry_stand : (size : ℕ) (told later : Told) (m : Machine) (t : Transaction) → m.settings.region ≡ size → TablesStand size told old m → TellsOn told later
      → get m.transactions c ≡ Some t → try_refusal x ≡ None → MayTry m t (Answer.Retry b n) × TablesStand size later new (tried m c t (Answer.Retry b n))
  retry_stand size told later m t region st on there asked =
      let txn = txn_in size told old m c x t st here there in
      let t2 : Transaction = machine_rebased m t in
      let now : Stands size later again.tx 0 (metadata_now old.kv) m.now =
      Stands-later told later on size again.tx 0 (metadata_now old.kv) m.now
      (subst (λ k. Stands size told k 0 (metadata_now old.kv) m.now) (sym (retry_tx old new c x b n sound here turn)) txn.now) in
      let stands : StandsForTxn size later new.kv m.now again t2 = record {
        sound = sound_later size new.kv told later again t.ops on (turn.sound size told t.ops txn.sound);
        base = st.number ∙ sym turn.retried.number_is ∙ sym based;
        shown = txn.shown ∙ ap (λ (v : TxnView). v.log.shown) (sym turn.retried.is);
        replayed = ap (λ (v : TxnView). v.replayed) (sym turn.retried.is);
        tree = subst (λ w. Stands size later again.tx 0 w m.now) (sym retry_map) now;
        now = subst (λ w. Stands size later again.tx 0 w m.now) (sym retry_now) now;
        since = retry_since txn.since.own.none;
      } in
      let met : meets t.touched (reads_of (cap_for (caller_at size x.tx 0)) t.tree t.ops) ≡ true =
      retry_met size old.kv told x t.ops t.tree t.touched txn.sound (done_all size old.kv told x t.ops txn.sound (try_live x asked)) txn.tree
      txn.since turn.retried.in_the_way
      (λ q is. subst (λ k. k < version_of key_cmp old.kv old.kv.number q) turn.retried.base_is (turn.retried.moved q is)) in (
        (
          (turn.retried.base_is ∙ sym txn.base, turn.retried.number_is ∙ sym st.number, turn.retried.later),
          subst (λ k. meets t.touched (reads_of k t.tree t.ops) ≡ true) (sym (cap_is m size region)) met,
        ),
        stands_kept size told later old new m (with_transaction m c t2) c (Some again) sound st on (retry_turned old new c x b n sound here turn)
            turn.retried.number turn.retried.versions
            (λ d ne. get-number_other m.transactions c t2 d ne) refl refl refl refl
            (subst (λ o. StandsForSlot size later new.kv m.now (Some again) o) (sym (get-number_same m.transactions c t2)) stands),
      )

-- ---- an attempt
-- the machine may answer so, and the tables stand for what it then is
pub tries_stand : (size : ℕ) (told later : Told) (old new : TablesView) (m : Machine) (c : ℕ) (x : TxnView) (t : Transaction) (a : Answer) → AreSound old
    → m.settings.region ≡ size → IsSmall m → TablesStand size told old m → TellsOn told later → of_client old.clients c ≡ Some x → get m.transactions c ≡ Some t
    → try_refusal x ≡ None → Tries old new c x a → MayTry m t a × TablesStand size later new (tried m c t a)
tries_stand size told later old new m c x t (Answer.Committed n) sound region small st on here there asked turn =
    installs_stand old new turn.mid c x sound here (commit_up old new c x n turn) turn.ends size told later m t n small st on region there
    (turn.final size later t.ops (sound_later size old.kv told later x t.ops on (txn_in size told old m c x t st here there).sound))
tries_stand size told later old new m c x t (Answer.Retry b n) sound region small st on here there asked turn = retry_stand old new c x b n sound here turn size
    told later m t region st on there asked
tries_stand size told later old new m c x t a sound region small st on here there asked turn = absurd turn

-- ---- a step
module _ (z : Seeing) (old new : TablesView) (c : ℕ) (x : TxnView) (i : ℕ)
    (sound : AreSound old) (here : of_client old.clients c ≡ Some x) (turn : Replays z old new c x i) where
  -- the transaction with one call more done
  abbrev onward : TxnView
  onward = turn.later_one

  -- it has its number and its log, with i calls done
  replay_tx : onward.tx ≡ x.tx
  replay_tx = ap (λ (v : TxnView). v.tx) turn.replayed.is

  replay_going : onward.ended ≡ x.ended
  replay_going = ap (λ (v : TxnView). v.ended) turn.replayed.is

  replay_count : onward.replayed ≡ i
  replay_count = ap (λ (v : TxnView). v.replayed) turn.replayed.is

  replay_shown : onward.log.shown ≡ x.log.shown
  replay_shown = ap (λ (v : TxnView). v.log.shown) turn.replayed.is

  -- on the tree at the base the next call answers what was shown
  replay_may : (m : Machine) (t : Transaction) → m.settings.region ≡ z.size → StandsForTxn z.size z.told old.kv m.now x t → TellsOn z.told z.later
      → LogStands z.size old.kv z.later onward t.ops → MayStep m t (Answer.Replayed i)
  replay_may m t region txn on run =
      let tree : Stands z.size z.told onward.tx 0 (metadata_at old.kv onward.at.base) t.tree =
      subst (λ k. Stands z.size z.told k 0 (metadata_at old.kv onward.at.base) t.tree) (sym replay_tx)
      (subst (λ b. Stands z.size z.told x.tx 0 (metadata_at old.kv b) t.tree) (sym turn.replayed.base) txn.tree) in
      let ran = at_base z.size old.kv z.later onward t.ops run t.tree
      (Stands-later z.told z.later on z.size onward.tx 0 (metadata_at old.kv onward.at.base) t.tree tree) in
      let cap = cap_is m z.size region in
      let index = turn.replayed.index in
      let done = txn.replayed in
      let up : suc t.replayed ≡ onward.replayed = omega (arith, index, done, replay_count) in
      let first : answers_of (cap_of m) t.tree (take (suc t.replayed) t.ops) ≡ take (suc t.replayed) t.shown =
      ap (λ k. answers_of k t.tree (take (suc t.replayed) t.ops)) cap
      ∙ ap (λ k. answers_of (cap_for (caller_at z.size x.tx 0)) t.tree (take k t.ops)) up
      ∙ ran.answers
      ∙ ap (λ k. take k onward.log.shown) (sym up)
      ∙ ap (λ l. take (suc t.replayed) l) (replay_shown ∙ sym txn.shown) in
      (index ∙ ap (λ k. k + 1) (sym done), answer_shown (cap_of m) t.tree t.ops t.shown t.replayed first)

  -- and the machine's transaction goes on with it
  replay_stand : (m : Machine) (t : Transaction) → m.settings.region ≡ z.size → TablesStand z.size z.told old m
      → TellsOn z.told z.later → get m.transactions c ≡ Some
      t → z.telling × AreTrue z.size z.told z.lists old
      → MayStep m t (Answer.Replayed i) × TablesStand z.size z.later new (stepped m c t (Answer.Replayed i))
  replay_stand m t region st on there telling =
      let txn = txn_in z.size z.told old m c x t st here there in
      let run : LogStands z.size old.kv z.later onward t.ops = turn.sound (telling.0, telling.1, txn.tree.bytes) t.ops txn.sound in (
        replay_may m t region txn on run,
        goes_stand old new c x onward sound here turn.keeps replay_tx turn.replayed.base replay_going turn.fit z.size z.told z.later m t
            (record t { replayed = i }) st on there run refl refl refl (txn.shown ∙ sym replay_shown) (sym replay_count),
      )

-- a call that deviates at the base ends the transaction
abort_may : (z : Seeing) (old new : TablesView) (c : ℕ) (x : TxnView) (i : ℕ) (a : Answer)
    (m : Machine) (t : Transaction)
    → Aborts z old new c x i a → m.settings.region ≡ z.size → StandsForTxn z.size z.told old.kv m.now x t → z.telling × AreTrue
    z.size z.told z.lists old
    → (i ≡ t.replayed + 1) × (slice_get (answers_of (cap_of m) t.tree t.ops) t.replayed ≡ Some a) × (slice_get t.shown t.replayed ≢ Some a)
abort_may z old new c x i a m t turn region txn telling =
    let d = turn.deviates (telling.0, telling.1, txn.tree.bytes) t.ops txn.sound t.tree txn.tree in
    let index = turn.index in
    let done = txn.replayed in
    let place : t.replayed ≡ i - 1 = omega (arith, index, done) in (
      index ∙ ap (λ k. k + 1) (sym done),
      ap (λ k. slice_get (answers_of k t.tree t.ops) t.replayed) (cap_is m z.size region)
          ∙ ap (slice_get (answers_of (cap_for (caller_at z.size x.tx 0)) t.tree t.ops)) place ∙ d.answer_is,
      λ e. d.differs (ap (slice_get x.log.shown) (sym place) ∙ ap (λ l. slice_get l t.replayed) (sym txn.shown) ∙ e),
    )

-- the bytes of the next call were not read
step_fault_may : (z : Seeing) (old new : TablesView) (c : ℕ) (x : TxnView) (a : Answer)
    (m : Machine) (t : Transaction)
    → StepFails z old new c x a → m.settings.region ≡ z.size → m.settings.servers ≡ z.servers → StandsForTxn z.size z.told old.kv
    m.now x t
    → IsDone (slice_get (answers_of (cap_of m) t.tree t.ops) t.replayed) × IsReadFault m.settings.servers a
step_fault_may z old new c x a m t turn region count txn =
    let may = turn.may t.ops txn.sound t.tree txn.tree in (
      subst (λ k. IsDone (slice_get (answers_of k t.tree t.ops) t.replayed)) (sym (cap_is m z.size region))
          (subst (λ n. IsDone (slice_get (answers_of (cap_for (caller_at z.size x.tx 0)) t.tree t.ops) n)) (sym txn.replayed) may.0),
      subst (λ n. IsReadFault n a) (sym count) may.1,
    )

-- the machine may answer so, and the tables stand for what it then is
pub steps_stand : (z : Seeing) (old new : TablesView) (m : Machine) (c : ℕ) (x : TxnView) (t : Transaction) (a : Answer) → AreSound old
    → m.settings.region ≡ z.size → m.settings.servers ≡ z.servers → TablesStand z.size z.told old m → TellsOn z.told z.later → of_client old.clients c ≡ Some x
    → get m.transactions c ≡ Some t → step_refusal x ≡ None → z.telling × AreTrue z.size z.told z.lists old → StepTurn z old new c x a
    → MayStep m t a × TablesStand z.size z.later new (stepped m c t a)
steps_stand z old new m c x t (Answer.Replayed i) sound region count st on here there asked telling turn = replay_stand
    z old new c x i sound here turn m t region st on there telling
steps_stand z old new m c x t (Aborted' i box a) sound region count st on here there asked telling turn = (
  abort_may z old new c x i a m t turn region (txn_in z.size z.told old m c x t st here there) telling,
  leaves_stand old new old.kv c x sound here (omega arith) turn.ends z.size z.told z.later m st on refl (λ q. refl),
)
steps_stand z old new m c x t a sound region count st on here there asked telling turn = (
  step_fault_may z old new c x a m t turn region count (txn_in z.size z.told old m c x t st here there),
  stays_stand old
      new c sound turn.fails.stays z.size z.told z.later m st on,
)

-- ---- a commit
-- a commit by replay raises the number
finish_up : (z : Seeing) (old new : TablesView) (c : ℕ) (x : TxnView) (n : ℕ) (turn : Finishes z old new c x n) → old.kv.number ≤ turn.mid.number
finish_up z old new c x n turn = let number = turn.number in let next = turn.next in omega (arith, number, next)

-- a replay that is given up leaves the number
give_up : (z : Seeing) (old new : TablesView) (c : ℕ) (x : TxnView) (i : ℕ) (a : Answer) (turn : GivesUp z old new c x i a) → old.kv.number ≤ turn.mid.number
give_up z old new c x i a turn = let number = turn.number in omega (arith, number)

-- calls that deviate on the map now do so on the tree now
give_up_may : (z : Seeing) (old new : TablesView) (c : ℕ) (x : TxnView) (i : ℕ) (a : Answer)
    (m : Machine) (t : Transaction)
    → GivesUp z old new c x i a → m.settings.region ≡ z.size → StandsForTxn z.size z.told old.kv m.now x t → z.telling × AreTrue
    z.size z.told z.lists old
    → Deviates (answers_of (cap_of m) m.now t.ops) t.shown i a
give_up_may z old new c x i a m t turn region txn telling =
    subst (λ k. Deviates (answers_of k m.now t.ops) t.shown i a) (sym (cap_is m z.size region))
    (subst (λ l. Deviates (answers_of (cap_for (caller_at z.size x.tx 0)) m.now t.ops) l i a) (sym txn.shown)
    (turn.deviates (telling.0, telling.1, txn.tree.bytes) (telling.0, telling.1, txn.now.bytes) t.ops txn.sound m.now txn.now))

-- the machine may answer so, and the tables stand for what it then is
pub finals_stand : (z : Seeing) (old new : TablesView) (m : Machine) (c : ℕ) (x : TxnView) (t : Transaction) (a : Answer) → AreSound old
    → m.settings.region ≡ z.size → m.settings.servers ≡ z.servers → IsSmall m → TablesStand z.size z.told old m → TellsOn z.told z.later
    → of_client old.clients c ≡ Some x → get m.transactions c ≡ Some t → z.telling × AreTrue z.size z.told z.lists old → Finals z old new c x a
    → MayCommit m t a × TablesStand z.size z.later new (committed m c t a)
finals_stand z old new m c x t (Answer.Committed n) sound region count small st on here there telling turn = installs_stand old new turn.mid c x sound here
    (finish_up z old new c x n turn) turn.ends z.size z.told z.later m t n small st on region there
    (turn.final (telling.0, telling.1, (txn_in z.size z.told old m c x t st here there).tree.bytes)
    (telling.0, telling.1, (txn_in z.size z.told old m c x t st here there).now.bytes) t.ops (txn_in z.size z.told old m c x t st here there).sound)
finals_stand z old new m c x t (Aborted' i box a) sound region count small st on here there telling turn = (
  give_up_may z old new c x i a m t turn region (txn_in z.size z.told old m c x t st here there) telling,
  leaves_stand old new turn.mid c x sound here (give_up z old new c x i a turn) turn.ends
      z.size z.told z.later m st on turn.number turn.gave_up.versions,
)
finals_stand z old new m c x t a sound region count small st on here there telling turn =
    let txn = txn_in z.size z.told old m c x t st here there in (
      subst (λ n. IsReadFault n a) (sym count) (turn.may (telling.0, telling.1, txn.tree.bytes) (telling.0, telling.1, txn.now.bytes) t.ops txn.sound m.now
          txn.now),
      stays_stand old new c sound turn.fails.stays z.size z.told z.later m st on,
    )
