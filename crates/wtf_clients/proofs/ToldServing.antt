-- What answered lines of clients, and dumps, made of the tables over stores that tell.
use Rattle.wtf_clients.proofs.Common.{IfSome, option_map, Fault, InodeId, Slice, StoreKind, KindLaws, Place, Store, Key, Value, Answer, Aborted', Word, Op}
use Rattle.wtf_clients.proofs.Common.{MapBytes, ListsBytes, any_slice, Told, is_told, is_listed, file_of, Map, metadata_at, seen, with_bytes, file_bytes}
use Rattle.wtf_clients.proofs.Common.{TellsOn, is_told-later, Dev, are_apart, IsSoundDev, GoesOn, stores, remembered, told_in, between, is_inside, goes_nowhere}
use Rattle.wtf_clients.proofs.Common.{SliceBytes, FaultAt, ReplayFault, IsCommitFault, fault_answer, HandBytes, LogBytes, TxnBytes, NamesTxn, NamesNow}
use Rattle.wtf_clients.proofs.Common.{lists_have, call_refusal, step_refusal, TxnView, hand_of, in_hand, Of, tells_on, own_known, IsStepped, Clients}
use Rattle.wtf_clients.proofs.Common.{TablesView, of_client, metadata_now, AreSound, Sets, LacksDump, TablesBytes, any_byte, has_copies, Load, Data, no_load}
use Rattle.wtf_clients.proofs.Common.{HasCause, data_of_op, NamesTables, IsPlain, AreBased, IsOwnTxn, FollowsTxn, Went, ListedBytes, TellsTables, AreWide}
use Rattle.wtf_clients.proofs.Common.{HoldsOfAdded, ServesTold, Ends, TablesStay, Turn, turn, CallOf, StepOf, Ok, Err, ◌≡◌, ◌⊎◌, ℕ, Bool, true, List, []}
use Rattle.wtf_clients.proofs.Common.{Option, None, Some, refl, sym, ap, ◌∙◌, subst, slice_get}
use Rattle.wtf_clients.proofs.{Lives.AreInside, Added.own_added, Added.own_logged, Caused.logged_plain, Caused.plain_caused, Dumping.dump_caused}
use Rattle.wtf_clients.proofs.{Lacking.AreFullLists, Goings.own_txn_later, Goings.client_went, Goings.stays_went, Goings.ends_went, Lists.sets_same}
use Rattle.wtf_clients.proofs.{Lives.now_bytes, Lives.same_reaches, Making.answered, Naming.keeps_bytes, Naming.stays_bytes, Naming.leaves_bytes}
use Rattle.wtf_clients.proofs.{Naming.ends_bytes, Serving.step_by, Serving.call_by, Serving.commit_by, ToldLaws.tables_weaker, ToldLaws.tables_later}
use Rattle.wtf_clients.proofs.{ToldLaws.lists_on, ToldLaws.named_tell, ToldLaws.named_keeps, ToldLaws.full_lists, ToldLaws.told_serves, Making.as_words}
use Rattle.wtf_clients.proofs.{Making.refusal_of, Lacking.memory_none, Serving.step_plain}

-- the number of a transaction, its base and its log stay
abbrev KeepsLog : TxnView → TxnView → Type 0
KeepsLog x y = (y.tx ≡ x.tx) × (y.at.base ≡ x.at.base) × (y.log ≡ x.log)

stepped_by : (x y : TxnView) (a : Answer) → IsStepped x y a → KeepsLog x y
stepped_by x y (Answer.Replayed i) h = (ap (λ (z : TxnView). z.tx) h.is, h.base, ap (λ (z : TxnView). z.log) h.is)
stepped_by x y (Aborted' i box a) h = (h.over.tx, h.over.base, h.over.log)
stepped_by x y a h = absurd h

-- they do in a step
log_or : {D : Type 0} (x y : TxnView) (before after : D) (a : Answer) (o : Option Word)
    → IfSome o (λ w. (answered Fault a (Answer.Refused w)) × (y ≡ x) × (after ≡ before)) → (o ≡ None → IsStepped x y a) → KeepsLog x y
log_or x y before after a None stopped stepped = stepped_by x y a (stepped refl)
log_or x y before after a (Some w) stopped stepped =
    (ap (λ (z : TxnView). z.tx) stopped.1, ap (λ (z : TxnView). z.at.base) stopped.1, ap (λ (z : TxnView). z.log) stopped.1)

pub stepped_log : {S : Type 0} (t : Turn S) (a : Answer) → StepOf t (Ok a) → KeepsLog t.old t.new
stepped_log t a did = log_or t.old t.new t.before t.after a (step_refusal t.old) did.refused did.stepped

-- what changes nothing
pub all_stays : (tables : TablesView) (c : ℕ) → TablesStay tables tables c
all_stays tables c = record {
  clients = sets_same c tables.clients tables.clients refl;
  number = refl;
  maps = λ n le. refl;
  versions = λ q. refl;
  pins = λ n. refl;
  next_tx = refl;
  beside = refl;
}

module _ {S : Type 0} {kind : StoreKind S} (laws : KindLaws kind) (old new : Dev S) (goes : GoesOn kind old new []) (lent : IsSoundDev kind old)
    (before : TablesView) (sound : AreSound before) (inside : AreInside kind old before)
    (tells : TellsTables kind (stores old) old.settings (remembered old) before) where
  abbrev told : Told
  told = told_in kind old

  abbrev later : Told
  later = told_in kind new

  abbrev size : ℕ
  size = old.settings.region

  -- each byte has as many copies as there are replicas
  abbrev Wide : Type 0
  Wide = AreWide old.settings told before

  abbrev had : Slice → Bool
  had = lists_have size told (has_copies old.settings.replicas)

  abbrev Why : Load → Answer → Type 0
  Why load a = HasCause kind (between old new) old.settings ⊥ (AreBased before) Wide load a

  abbrev Served : TablesView → Answer → Type 0
  Served after a = ServesTold kind (between old new) old.settings (before, after) a

  on : TellsOn told later
  on = tells_on laws goes.each

  plain_why : (load : Load) (a : Answer) → IsPlain a → Why load a
  plain_why load a plain = plain_caused kind (between old new) old.settings ⊥ (AreBased before) Wide load a plain

  -- what a line adds
  abbrev Added : (List Place → Bool) → Type 0
  Added P = HoldsOfAdded kind (between old new) old.settings P

  abbrev Gone : TablesView → Type 0
  Gone after = Went size told later Added before after

  -- lines that leave all that is seen of the tables
  pub stays_told : (after : TablesView) (c : ℕ) (load : Load) (a : Answer) → TablesStay before after c → Why load a → Served after a
  stays_told after c load a st why =
      told_serves laws old new goes lent before tells after load a
      (stays_went size told later on Added before after c sound tells.names (of_client before.clients c) st.clients st.maps
      (same_reaches before.kv after.kv st.pins) st.beside (λ P Q hole h. stays_bytes P Q before after c sound st h) (λ y is. is)) why

  pub plain_told : (after : TablesView) (c : ℕ) (a : Answer) → TablesStay before after c → IsPlain a → Served after a
  plain_told after c a st plain = stays_told after c no_load a st (plain_why no_load a plain)

  -- one that ended a transaction, which left the map now
  pub leaves_told : (after : TablesView) (c : ℕ) (x : TxnView) (a : Answer) → Ends before after before.kv c x → IsPlain a → Served after a
  leaves_told after c x a ends plain =
      told_serves laws old new goes lent before tells after no_load a
      (ends_went size told later on Added before after c sound tells.names before.kv x ends (λ P hole added h.
      leaves_bytes P (lists_have size later P) before after before.kv c x sound ends refl (tables_later size told later P on before h)))
      (plain_why no_load a plain)

  -- one that committed
  pub ends_told : (after : TablesView) (kv : Store Key Value) (c : ℕ) (x : TxnView) (a : Answer) → of_client before.clients c ≡ Some x
      → Ends before after kv c x → NamesNow kind old new before.kv kv x → IsPlain a → Served after a
  ends_told after kv c x a there ends named plain =
      told_serves laws old new goes lent before tells after no_load a
      (ends_went size told later on Added before after c sound tells.names kv x ends (λ P hole added h.
      ends_bytes P (lists_have size later P) before after kv c x sound ends
      (named_keeps laws old new goes before tells (λ R O. TxnBytes R O before.kv x × MapBytes R O (metadata_at before.kv before.kv.number))
      (λ R O. MapBytes R O (metadata_at kv kv.number)) (λ R O ok all. (all.each c x there, now_bytes R O before all)) named P hole h)
      (tables_later size told later P on before h))) (plain_why no_load a plain)

  -- ---- why bytes were not read
  -- what is seen of the tables is told
  seen_told : (c : ℕ) (x : TxnView) → of_client before.clients c ≡ Some x → MapBytes (is_told told) (is_listed size told) (seen before.kv x.at)
  seen_told c x there =
      let hand = (tells.names.each c x there).hand in
      with_bytes (is_told told) (is_listed size told) refl x.at.changes (metadata_at before.kv x.at.base) hand.base hand.changes

  -- no byte of it lies in a range that was punched
  abbrev Apart : List Place → Bool
  Apart = are_apart tells.punched

  abbrev had_apart : Slice → Bool
  had_apart = lists_have size told Apart

  seen_apart : (c : ℕ) (x : TxnView) → of_client before.clients c ≡ Some x → MapBytes Apart had_apart (seen before.kv x.at)
  seen_apart c x there =
      let hand = (tells.away.each c x there).hand in
      with_bytes Apart had_apart refl x.at.changes (metadata_at before.kv x.at.base) hand.base hand.changes

  reads_now : (w : Map) → MapBytes (is_told told) (is_listed size told) w → MapBytes Apart had_apart w
      → (i : InodeId) (off n : ℕ) → AreFullLists kind old new Wide had (file_of i w) off n
  reads_now w map away i off n =
      full_lists kind old old new on refl goes.settings tells.punched tells.cache Wide (file_of i w) (is_listed size told) had_apart
      (file_bytes (is_told told) (is_listed size told) i w map) (file_bytes Apart had_apart i w away) off n

  -- and so it is behind calls that were made once more
  reads_again : (y : TxnView) (why : Fault)
      → ((P : List Place → Bool) (Q : Slice → Bool) → P [] ≡ true → TablesBytes P Q before → HandBytes P Q before.kv (hand_of y) × LogBytes P y.log)
      → (f : ReplayFault kind old new before.kv y why) → (Wide → ListsBytes (has_copies old.settings.replicas) had f.named.lists)
      × ((i : InodeId) (off n : ℕ) → AreFullLists kind f.mid new Wide had (file_of i (seen before.kv f.at)) off n)
  reads_again y why own f =
      let mid : Told = told_in kind f.mid in
      let going : TellsOn told mid = tells_on laws f.goes.each in
      let Was : Of = λ P Q. HandBytes P Q before.kv (hand_of y) × LogBytes P y.log in
      let Is : Of = λ P Q. HandBytes P Q before.kv (in_hand f.at f.session) in
      let tell = named_tell laws old f.mid f.goes before tells Was Is own f.named in
      let hand : HandBytes (is_told mid) (is_listed size mid) before.kv (in_hand f.at f.session) =
      named_keeps laws old f.mid f.goes before tells Was Is own f.named (is_told mid) refl
      (tables_weaker size told (is_told told) (is_told mid) (λ qs is. is_told-later told mid qs going is) before tells.names) in
      let map : MapBytes (is_told mid) (is_listed size mid) (seen before.kv f.at) =
      with_bytes (is_told mid) (is_listed size mid) refl f.at.changes (metadata_at before.kv f.at.base) hand.base hand.changes in
      let off : HandBytes Apart (lists_have size mid Apart) before.kv (in_hand f.at f.session) =
      named_keeps laws old f.mid f.goes before tells Was Is own f.named Apart refl tells.away in
      let away : MapBytes Apart (lists_have size mid Apart) (seen before.kv f.at) =
      with_bytes Apart (lists_have size mid Apart) refl f.at.changes (metadata_at before.kv f.at.base) off.base off.changes in (
        λ wide. lists_on size told mid (has_copies old.settings.replicas) going f.named.lists tell,
        λ i off n. full_lists kind old f.mid new on f.goes.settings goes.settings tells.punched (f.goes.lists tells.punched tells.cache) Wide
            (file_of i (seen before.kv f.at)) (is_listed size mid) (lists_have size mid Apart)
            (file_bytes (is_told mid) (is_listed size mid) i (seen before.kv f.at) map)
            (file_bytes Apart (lists_have size mid Apart) i (seen before.kv f.at) away) off n,
      )

  pub step_why : (c : ℕ) (x : TxnView) (why : Fault) (a : Answer) → of_client before.clients c ≡ Some x → fault_answer why ≡ Some a
      → (why ≡ Fault.Memory) ⊎ FaultAt kind old new before.kv (hand_of x) (slice_get x.log.ops x.replayed) why → Why no_load a
  step_why c x why a there is cause =
      step_by laws old new goes lent before sound inside Wide had (λ h. h) c x why a there is
      (reads_now (seen before.kv x.at) (seen_told c x there) (seen_apart c x there)) cause

  pub commit_why : (c : ℕ) (x : TxnView) (why : Fault) (a : Answer) → of_client before.clients c ≡ Some x → fault_answer why ≡ Some a
      → IsCommitFault kind old new before.kv x why → Why no_load a
  commit_why c x why a there is cause =
      commit_by laws old new goes lent before sound inside Wide had (λ h. h) c x why a there is (λ y own f. reads_again y why own f) cause

  pub dump_why : (p : List ℕ) (why : Fault) (a : Answer) → fault_answer why ≡ Some a
      → (why ≡ Fault.Memory) ⊎ LacksDump kind old new (metadata_now before.kv) p why → Why no_load a
  dump_why p why a is cause =
      dump_caused laws old new lent (metadata_now before.kv) p (now_bytes (is_inside kind (stores old) old.settings) any_slice before inside)
      (AreBased before) Wide had (λ Q based. now_bytes any_byte Q before based) (λ h. now_bytes (has_copies old.settings.replicas) had before h)
      (λ i n. reads_now (metadata_now before.kv) (now_bytes (is_told told) (is_listed size told) before tells.names)
      (now_bytes Apart had_apart before tells.away) i 0 n) why a is cause

  -- ---- a client's transaction goes on
  module _ (clients : Clients) (c : ℕ) (x y : TxnView) (there : of_client before.clients c ≡ Some x) (sets : Sets c (Some y) before.clients clients) where
    abbrev called : TablesView
    called = record before { clients = clients }

    keeps_told : (P : List Place → Bool) → ListedBytes size told P before → TxnBytes P (lists_have size later P) before.kv y → ListedBytes size later P called
    keeps_told P h own =
        keeps_bytes P (lists_have size later P) before called c y sound (record { clients = sets; kv = refl; next_tx = refl; beside = refl }) own
        (tables_later size told later P on before h)

    same_names : y ≡ x → NamesTables before called
    same_names same P Q hole h =
        keeps_bytes P Q before called c y sound (record { clients = sets; kv = refl; next_tx = refl; beside = refl })
        (subst (TxnBytes P Q before.kv) (sym same) (h.each c x there)) h

    -- it is what it was
    same_gone : y ≡ x → Gone called
    same_gone same =
        stays_went size told later on Added before called c sound tells.names (Some y) sets (λ n le. refl)
        (same_reaches before.kv before.kv (λ n. refl)) refl (same_names same) (λ z is. there ∙ ap Some (sym same) ∙ is)

    -- A call with its slice, or one that was made once more: its log has the slice behind what it had, which is all that it stored. Each byte of
    -- it was added.
    goes_told : (load : Load) (a : Answer) (own : Option Slice) → NamesTxn kind old new before.kv x y own → y.tx ≡ x.tx → y.at.base ≡ x.at.base
        → ((P : List Place → Bool) → LogBytes P x.log → SliceBytes P own → LogBytes P y.log)
        → ((P : List Place → Bool) → LogBytes P y.log → LogBytes P x.log × SliceBytes P own)
        → ((P : List Place → Bool) → Added P → SliceBytes P own) → Why load a → Served called a
    goes_told load a own named tx base grows back mine why =
        told_serves laws old new goes lent before tells called load a
        (client_went size told later on Added before called c (Some y) sound sets (λ n le. refl) (same_reaches before.kv before.kv (λ n. refl)) refl tells.names
        (λ P hole added h. keeps_told P h
        (named_keeps laws old new goes before tells (λ R O. TxnBytes R O before.kv x) (λ R O. SliceBytes R own → TxnBytes R O before.kv y)
        (λ R O ok all. all.each c x there) named P hole h (mine P added)))
        (λ z is. subst (FollowsTxn Added (of_client before.clients c)) (some_same y z is)
        (subst (λ o. FollowsTxn Added o y) (sym there) (tx, λ P added log. grows P log (mine P added))))
        (λ z is owned. subst (IsOwnTxn size later before.kv) (some_same y z is) (own_goes owned))) why
      where
        some_same : (u v : TxnView) → Some u ≡ Some v → u ≡ v
        some_same u v e = cc

        -- what it names is named by the map at its base, or it stored that itself
        own_goes : ((z : TxnView) → of_client before.clients c ≡ Some z → IsOwnTxn size told before.kv z) → IsOwnTxn size later before.kv y
        own_goes owned P hole map log =
            let parts = back P log in
            let Q : Slice → Bool = lists_have size later P in
            let was : TxnBytes P Q before.kv x =
            own_txn_later size told later on before.kv x (tells.names.each c x there).hand.base (owned x there) P hole
            (subst (λ b. MapBytes P Q (metadata_at before.kv b)) base map) parts.0 in
            let tell = named_tell laws old new goes before tells (λ R O. TxnBytes R O before.kv x) (λ R O. SliceBytes R own → TxnBytes R O before.kv y)
            (λ R O ok all. all.each c x there) named in
            named.names P Q hole was (lists_on size later later P (λ q byte is. is) named.lists tell) parts.1

    pub step_told : (a : Answer) → StepOf (turn kind old new before.kv before.kv x y) (Ok a) → Served called a
    step_told a step =
        let kept = stepped_log (turn kind old new before.kv before.kv x y) a step in
        goes_told no_load a None step.named kept.0 kept.1
        (λ P had none. subst (LogBytes P) (sym kept.2) had) (λ P had. (subst (LogBytes P) kept.2 had, tt)) (λ P added. tt)
        (plain_why no_load a (step_plain (turn kind old new before.kv before.kv x y) a step))

    pub step_failed_told : (a : Answer) → y ≡ x → Why no_load a → Served called a
    step_failed_told a same why = told_serves laws old new goes lent before tells called no_load a (same_gone same) why

    -- a call, which stored its own slice
    pub call_told : (o : Op (List ℕ)) (a : Answer) → CallOf (turn kind old new before.kv before.kv x y) o (Ok a) → Served called a
    call_told o a call = by (call_refusal x) refl
      where
        by : (r : Option Word) → call_refusal x ≡ r → Served called a
        by None is =
            let did = call.made (ap (option_map Answer.Refused) is) in
            let keeps = own_known kind old new (seen before.kv x.at) x.session did.called.kept o did.own did.called.kept_is did.stored in
            let logged = own_logged x y o did.own a did.called keeps in
            goes_told (Data (data_of_op o)) a did.own did.named did.called.logged.tx did.called.logged.grows.base logged.0 logged.1
            (own_added kind old new (seen before.kv x.at) x.session o did.own goes.each.same_length tells.all did.stored)
            (plain_why (Data (data_of_op o)) a (logged_plain a did.called.logged.answer))
        by (Some w) is =
            let all = refusal_of Fault x y old new (call_refusal x) w a is (as_words x y old new (Ok a) (call_refusal x) call.instead) in
            told_serves laws old new goes lent before tells called (Data (data_of_op o)) a (same_gone all.1)
            (plain_why (Data (data_of_op o)) a (subst IsPlain (sym all.0) tt))

    pub call_failed_told : (o : Op (List ℕ)) (why : Fault) (a : Answer) → fault_answer why ≡ Some a
        → CallOf (turn kind old new before.kv before.kv x y) o (Err why) → Served called a
    call_failed_told o why a is call =
        told_serves laws old new goes lent before tells called (Data (data_of_op o)) a (same_gone (call.err (memory_none why a is)))
        (call_by laws old new goes lent before sound inside Wide had (λ h. h) c x o why a there is
        (reads_now (seen before.kv x.at) (seen_told c x there) (seen_apart c x there)) call.fault)

-- a line that changed nothing
pub same_told : {S : Type 0} {kind : StoreKind S} → KindLaws kind → (dev : Dev S) → IsSoundDev kind dev → (before after : TablesView) → AreSound before
    → AreInside kind dev before → after ≡ before → (a : Answer) → IsPlain a
    → TellsTables kind (stores dev) dev.settings (remembered dev) before → ServesTold kind (between dev dev) dev.settings (before, after) a
same_told {kind = kind} laws dev lent before after sound inside same a plain tells =
    stays_told laws dev dev (goes_nowhere laws dev lent) lent before sound inside tells after 0 no_load a
    (subst (λ (t : TablesView). TablesStay before t 0) (sym same) (all_stays before 0))
    (plain_caused kind (between dev dev) dev.settings ⊥ (AreBased before) (AreWide dev.settings (told_in kind dev) before) no_load a plain)
