-- What answered lines made of the bytes that the tables name, and of the stores.
use Rattle.wtf_clients.proofs.Common.{IfSome, option_map, Fault, InodeId, Settings, Slice, StoreKind, KindLaws, Place, Store, Key, Value, Answer, Aborted'}
use Rattle.wtf_clients.proofs.Common.{Word, Op, Event, Verb, PlaceView, IsRing, ListsBytes, any_slice, InHand, file_of, Map, metadata_at, seen, with_bytes}
use Rattle.wtf_clients.proofs.Common.{nothing_kept, Dev, IsSoundDev, GoesOn, stores, inside_of, between, is_inside, OnlyRead, SliceBytes, TxnView, hand_of}
use Rattle.wtf_clients.proofs.Common.{rebased, in_hand, IsCallFault, FaultAt, ReplayFault, IsCommitFault, fault_answer, from_one, HandBytes, LogBytes, TxnBytes}
use Rattle.wtf_clients.proofs.Common.{IsInsideTxn, NamesTxn, NamesNow, call_refusal, step_refusal, IsStepped, IsEnded, map_later, inside_later, named_inside}
use Rattle.wtf_clients.proofs.Common.{Clients, TablesView, of_client, AreSound, Sets, TablesBytes, any_byte, no_slice, has_copies, Asked, line_asked, lent_by}
use Rattle.wtf_clients.proofs.Common.{IsPlaced, HasFailed, Data, no_load, AddsBytes, HasCause, data_of_op, NamesTables, IsPlain, AreBased, AreBare, AreFull}
use Rattle.wtf_clients.proofs.Common.{Serves, Ends, TablesStay, Turn, turn, CallOf, StepOf, Ok, Err, ◌≡◌, ◌⊎◌, ℕ, Bool, true, List, [], Option, None, Some}
use Rattle.wtf_clients.proofs.Common.{refl, sym, ap, subst, inl, inr, slice_get, ListFact}
use Rattle.wtf_clients.proofs.{Lives.AreInside, Lives.now_bytes, Making.answered, Making.same_answer, Naming.value_later, Naming.keeps_bytes}
use Rattle.wtf_clients.proofs.{Naming.stays_bytes, Naming.leaves_bytes, Naming.ends_bytes, Lacking.AreFullLists, Lacking.memory_none, Lacking.no_lists}
use Rattle.wtf_clients.proofs.{Lacking.any_lists, Lacking.cause_since, Caused.logged_plain, Caused.plain_caused, Caused.plain_failed, Caused.has_failed}
use Rattle.wtf_clients.proofs.{Caused.none_placed, Caused.refused_placed, Caused.fault_placed, Caused.call_placed, Caused.none_added, Caused.refused_adds}
use Rattle.wtf_clients.proofs.{Caused.same_lengths, Caused.call_adds, Caused.own_full, Caused.fault_adds, Caused.SeenBytes, Caused.again_caused}
use Rattle.wtf_clients.proofs.{Caused.call_caused, Making.as_words, Making.refusal_of, Known.lent_to}

-- what is not refused
pub stepped_plain : (x y : TxnView) (a : Answer) → IsStepped x y a → IsPlain a
stepped_plain x y (Answer.Replayed i) h = tt
stepped_plain x y (Aborted' i box a) h = tt
stepped_plain x y a h = absurd h

pub ended_plain : (kv after : Store Key Value) (a : Answer) → IsEnded kv after a → IsPlain a
ended_plain kv after (Answer.Committed n) h = tt
ended_plain kv after (Aborted' i box a) h = tt
ended_plain kv after a h = absurd h

-- what was not refused is said of an answer, and a refusal
plain_or : {D : Type 0} (x y : TxnView) (before after : D) (a : Answer) (o : Option Word)
    → IfSome o (λ w. (answered Fault a (Answer.Refused w)) × (y ≡ x) × (after ≡ before)) → (o ≡ None → IsStepped x y a) → IsPlain a
plain_or x y before after a None stopped stepped = stepped_plain x y a (stepped refl)
plain_or x y before after a (Some w) stopped stepped = subst IsPlain (sym (same_answer Fault a (Answer.Refused w) stopped.0)) tt

pub step_plain : {S : Type 0} (t : Turn S) (a : Answer) → StepOf t (Ok a) → IsPlain a
step_plain t a did = plain_or t.old t.new t.before t.after a (step_refusal t.old) did.refused did.stepped

-- a fault that is answered is no want of memory
pub past_memory : {F : Type 0} (why : Fault) (a : Answer) → fault_answer why ≡ Some a → (why ≡ Fault.Memory) ⊎ F → F
past_memory why a is (inl memory) = absurd (memory_none why a is memory)
past_memory why a is (inr f) = f

-- what a transaction sees, and has in hand
hand_sees : (P : List Place → Bool) (Q : Slice → Bool) → P [] ≡ true → (kv : Store Key Value) (hand : InHand) → HandBytes P Q kv hand → SeenBytes P Q
    (seen kv hand.at) hand.session
hand_sees P Q hole kv hand h = (with_bytes P Q hole hand.at.changes _ h.base h.changes, h.slices)

-- each byte of a slice passes the test that every byte does
any_own : (o : Option Slice) → SliceBytes any_byte o
any_own None = tt
any_own (Some s) = λ i below. refl

-- What tables name after a line lies inside the stores as they are left; and where no region had a base, what held of the places of each
-- byte holds still.
abbrev pub NamesAfter : {S : Type 0} → StoreKind S → (old new : Dev S) → TablesView → TablesView → Type 0
NamesAfter kind old new before after =
    TablesBytes (is_inside kind (stores new) old.settings) any_slice after × ((P : List Place → Bool) → P [] ≡ true → TablesBytes P no_slice before →
    TablesBytes P no_slice after)

module _ {S : Type 0} {kind : StoreKind S} (laws : KindLaws kind) (old new : Dev S) (goes : GoesOn kind old new []) (lent : IsSoundDev kind old)
    (before : TablesView) (sound : AreSound before) (inside : AreInside kind old before) where
  -- what lies inside the stores goes on doing so
  inside_at : (mid : Dev S) → GoesOn kind old mid [] → TablesBytes (is_inside kind (stores mid) old.settings) any_slice before
  inside_at mid on = record {
    live = λ n is. map_later laws on.each old.settings lent.shelf (metadata_at before.kv n) (inside.live n is);
    each = λ c x is. inside_later laws on.each old.settings lent.shelf before.kv x (inside.each c x is);
    planned = λ j x is. value_later laws on.each old.settings lent.shelf x.value (inside.planned j x is);
  }

  pub later : TablesBytes (is_inside kind (stores new) old.settings) any_slice before
  later = inside_at new goes

  -- a line that only read
  pub read_failed : (after : TablesView) (place : PlaceView → Type 0) (empty : Type 0) (fails : Fault → Type 0) (a : Answer)
      → NamesAfter kind old new before after → OnlyRead kind (between old new)
      → HasCause kind (between old new) old.settings ⊥ (AreBased before) (AreFull old.settings before) no_load a → HasFailed fails a
      → Serves kind (between old new) old.settings ⊥ (before, after) (record { given = no_load; goes_to = place; empty = empty; fails = fails }) a
  read_failed after place empty fails a names reads caused failed = record {
    inside = names.0;
    bare = λ free. names.1 any_byte refl;
    full = λ free. names.1 (has_copies old.settings.replicas) refl;
    adds = none_added kind (between old new) old.settings a reads.lengths;
    caused = caused;
    placed = none_placed kind (between old new) old.settings (record { given = no_load; goes_to = place; empty = empty; fails = fails }) a refl;
    failed = failed;
  }

  -- and did not fail
  pub read_serves : (after : TablesView) (place : PlaceView → Type 0) (empty : Type 0) (fails : Fault → Type 0) (a : Answer)
      → NamesAfter kind old new before after → OnlyRead kind (between old new) → IsPlain a
      → Serves kind (between old new) old.settings ⊥ (before, after) (record { given = no_load; goes_to = place; empty = empty; fails = fails }) a
  read_serves after place empty fails a names reads plain =
      read_failed after place empty fails a names reads
      (plain_caused kind (between old new) old.settings ⊥ (AreBased before) (AreFull old.settings before) no_load a plain) (plain_failed fails a plain)

  -- what a transaction names
  sees : (c : ℕ) (x : TxnView) → of_client before.clients c ≡ Some x → SeenBytes (inside_of kind old) any_slice (seen before.kv x.at) x.session
  sees c x there = hand_sees (inside_of kind old) any_slice refl before.kv (hand_of x) (inside.each c x there).hand

  sees_based : (c : ℕ) (x : TxnView) → of_client before.clients c ≡ Some x → (Q : Slice → Bool) → AreBased before Q → SeenBytes any_byte Q
      (seen before.kv x.at) x.session
  sees_based c x there Q based = hand_sees any_byte Q refl before.kv (hand_of x) (based.each c x there).hand

  -- what a transaction has in hand and its log name no more than is named
  abbrev pub IsOfTables : TxnView → Type 0
  IsOfTables y = (P : List Place → Bool) (Q : Slice → Bool) → P [] ≡ true → TablesBytes P Q before → HandBytes P Q before.kv (hand_of y) × LogBytes P y.log

  -- and where `full` holds, each byte of the lists that are read, of files of a map, has as many copies as there are replicas
  abbrev pub AreFullReads : Type 0 → (Slice → Bool) → Dev S → Map → Type 0
  AreFullReads full O mid w = (i : InodeId) (off n : ℕ) → AreFullLists kind mid new full O (file_of i w) off n

  -- so has then each byte of the tables, and O holds of each base
  module _ (full : Type 0) (O : Slice → Bool) (copies : full → TablesBytes (has_copies old.settings.replicas) O before) where
    sees_full : (c : ℕ) (x : TxnView) → of_client before.clients c ≡ Some x → full → SeenBytes (has_copies old.settings.replicas) O (seen before.kv x.at)
        x.session
    sees_full c x there h = hand_sees (has_copies old.settings.replicas) O refl before.kv (hand_of x) ((copies h).each c x there).hand

    -- a call that was made once more and failed
    pub step_by : (c : ℕ) (x : TxnView) (why : Fault) (a : Answer) → of_client before.clients c ≡ Some x → fault_answer why ≡ Some a
        → AreFullReads full O old (seen before.kv x.at) → (why ≡ Fault.Memory) ⊎ FaultAt kind old new before.kv (hand_of x) (slice_get x.log.ops x.replayed) why
        → HasCause kind (between old new) old.settings ⊥ (AreBased before) full no_load a
    step_by c x why a there is lists (inl memory) = absurd (memory_none why a is memory)
    step_by c x why a there is lists (inr f) =
        again_caused laws old new lent (seen before.kv x.at) x.session (AreBased before) full O (sees c x there) (sees_based c x there) (sees_full c x there)
        lists f.op why a is f.cause

    -- one that was made for the first time
    pub call_by : (c : ℕ) (x : TxnView) (o : Op (List ℕ)) (why : Fault) (a : Answer) → of_client before.clients c ≡ Some x → fault_answer why ≡ Some a
        → AreFullReads full O old (seen before.kv x.at) → IsCallFault kind old new (seen before.kv x.at) x.session o why
        → HasCause kind (between old new) old.settings ⊥ (AreBased before) full (Data (data_of_op o)) a
    call_by c x o why a there is lists h =
        call_caused laws old new lent (seen before.kv x.at) x.session (AreBased before) full O (sees c x there) (sees_based c x there) (sees_full c x there)
        lists o why a is h

    replay_by : (y : TxnView) (why : Fault) (a : Answer) → fault_answer why ≡ Some a → IsOfTables y → (f : ReplayFault kind old new before.kv y why)
        → (full → ListsBytes (has_copies old.settings.replicas) O f.named.lists) × AreFullReads full O f.mid (seen before.kv f.at)
        → HasCause kind (between old new) old.settings ⊥ (AreBased before) full no_load a
    replay_by y why a is names f lists =
        let hand : (P : List Place → Bool) (Q : Slice → Bool) → P [] ≡ true → TablesBytes P Q before → ListsBytes P Q f.named.lists → SeenBytes P Q
        (seen before.kv f.at) f.session = λ P Q hole h read.
        hand_sees P Q hole before.kv (in_hand f.at f.session) (f.named.names P Q hole (names P Q hole h) read) in
        cause_since laws old f.mid new (AreBased before) full a f.goes
        (again_caused laws f.mid new f.goes.sound (seen before.kv f.at) f.session (AreBased before) full O
        (subst (λ (st : Settings). SeenBytes (is_inside kind (stores f.mid) st) any_slice (seen before.kv f.at) f.session) (sym f.goes.settings)
        (hand (is_inside kind (stores f.mid) old.settings) any_slice refl (inside_at f.mid f.goes)
        (named_inside kind old f.mid f.goes f.named.lists f.named.inside)))
        (λ Q based. hand any_byte Q refl based (any_lists Q f.named.lists))
        (λ h. subst (λ (st : Settings). SeenBytes (has_copies st.replicas) O (seen before.kv f.at) f.session) (sym f.goes.settings)
        (hand (has_copies old.settings.replicas) O refl (copies h) (lists.0 h))) lists.1 f.fault.op why a is f.fault.cause)

    pub commit_by : (c : ℕ) (x : TxnView) (why : Fault) (a : Answer) → of_client before.clients c ≡ Some x → fault_answer why ≡ Some a
        → ((y : TxnView) → IsOfTables y → (f : ReplayFault kind old new before.kv y why)
        → (full → ListsBytes (has_copies old.settings.replicas) O f.named.lists) × AreFullReads full O f.mid (seen before.kv f.at))
        → IsCommitFault kind old new before.kv x why → HasCause kind (between old new) old.settings ⊥ (AreBased before) full no_load a
    commit_by c x why a there is lists (inl memory) = absurd (memory_none why a is memory)
    commit_by c x why a there is lists (inr f) = elim (from_one before.kv x) [
      | inl same ↦
          let own : IsOfTables x = λ P Q hole h. let mine = h.each c x there in (mine.hand, mine.log) in
          let g : ReplayFault kind old new before.kv x why = subst (λ z. ReplayFault kind old new before.kv z why) same f in
          replay_by x why a is own g (lists x own g)
      | inr again ↦
          let y : TxnView = rebased x before.kv.number in
          let own : IsOfTables y = λ P Q hole h.
          (record { base = now_bytes P Q before h; changes = tt; slices = nothing_kept P }, (h.each c x there).log) in
          let g : ReplayFault kind old new before.kv y why = subst (λ z. ReplayFault kind old new before.kv z why) again f in
          replay_by y why a is own g (lists y own g)
    ]

  -- where no region has a base no list is read of one
  no_reads : (mid : Dev S) (w : Map) → AreFullReads (AreFull old.settings before) no_slice mid w
  no_reads mid w i off n = λ h ps r. no_lists (has_copies mid.settings.replicas) r.facts

  pub step_caused : (c : ℕ) (x : TxnView) (why : Fault) (a : Answer) → of_client before.clients c ≡ Some x → fault_answer why ≡ Some a
      → (why ≡ Fault.Memory) ⊎ FaultAt kind old new before.kv (hand_of x) (slice_get x.log.ops x.replayed) why
      → HasCause kind (between old new) old.settings ⊥ (AreBased before) (AreFull old.settings before) no_load a
  step_caused c x why a there is cause = step_by (AreFull old.settings before) no_slice (λ h. h) c x why a there is (no_reads old (seen before.kv x.at)) cause

  pub commit_caused : (c : ℕ) (x : TxnView) (why : Fault) (a : Answer) → of_client before.clients c ≡ Some x → fault_answer why ≡ Some a
      → IsCommitFault kind old new before.kv x why → HasCause kind (between old new) old.settings ⊥ (AreBased before) (AreFull old.settings before) no_load a
  commit_caused c x why a there is cause =
      commit_by (AreFull old.settings before) no_slice (λ h. h) c x why a there is
      (λ y own f. ((λ h. no_lists (has_copies old.settings.replicas) f.named.lists), no_reads f.mid (seen before.kv f.at))) cause

  -- what names no more than was named
  pub from_names : (after : TablesView) → NamesTables before after → NamesAfter kind old new before after
  from_names after names = (names (is_inside kind (stores new) old.settings) any_slice refl later, λ P hole. names P no_slice hole)

  -- nor than that and what lists have that were read
  by_lists : (after : TablesView) (fs : List ListFact) → ListsBytes (is_inside kind (stores new) old.settings) any_slice fs
      → ((P : List Place → Bool) (Q : Slice → Bool) → P [] ≡ true → ListsBytes P Q fs → TablesBytes P Q before → TablesBytes P Q after)
      → NamesAfter kind old new before after
  by_lists after fs inside by = (by (is_inside kind (stores new) old.settings) any_slice refl inside later, λ P hole. by P no_slice hole (no_lists P fs))

  -- a client's transaction goes on
  pub goes_names : (clients : Clients) (c : ℕ) (x y : TxnView) → of_client before.clients c ≡ Some x → Sets c (Some y) before.clients clients
      → NamesTxn kind old new before.kv x y None → NamesAfter kind old new before (record before { clients = clients })
  goes_names clients c x y there sets named =
      by_lists (record before { clients = clients }) named.lists (named_inside kind old new goes named.lists named.inside) (λ P Q hole lists h.
      keeps_bytes P Q before (record before { clients = clients }) c y sound (record { clients = sets; kv = refl; next_tx = refl; beside = refl })
      (named.names P Q hole (h.each c x there) lists tt) h)

  pub same_names : (clients : Clients) (c : ℕ) (x y : TxnView) → of_client before.clients c ≡ Some x → Sets c (Some y) before.clients clients → y ≡ x
      → NamesAfter kind old new before (record before { clients = clients })
  same_names clients c x y there sets same =
      from_names (record before { clients = clients }) (λ P Q hole h.
      keeps_bytes P Q before (record before { clients = clients }) c y sound
      (record { clients = sets; kv = refl; next_tx = refl; beside = refl }) (subst (TxnBytes P Q before.kv) (sym same) (h.each c x there)) h)

  -- or has ended
  pub leaves_names : (after : TablesView) (c : ℕ) (x : TxnView) → Ends before after before.kv c x → NamesAfter kind old new before after
  leaves_names after c x ends = from_names after (λ P Q hole h. leaves_bytes P Q before after before.kv c x sound ends refl h)

  pub ends_names : (after : TablesView) (kv : Store Key Value) (c : ℕ) (x : TxnView) → of_client before.clients c ≡ Some x → Ends before after kv c x →
      NamesNow kind old new before.kv kv x → NamesAfter kind old new before after
  ends_names after kv c x there ends named =
      by_lists after named.lists (named_inside kind old new goes named.lists named.inside) (λ P Q hole lists h.
      ends_bytes P Q before after kv c x sound ends (named.names P Q hole (h.each c x there, now_bytes P Q before h) lists) h)

  pub stays_names : (after : TablesView) (c : ℕ) → TablesStay before after c → NamesAfter kind old new before after
  stays_names after c st = from_names after (λ P Q hole h. stays_bytes P Q before after c sound st h)

  module _ (clients : Clients) (c : ℕ) (x y : TxnView) (there : of_client before.clients c ≡ Some x) (sets : Sets c (Some y) before.clients clients)
      (own : IsInsideTxn kind (stores new) old.settings before.kv y) where
    abbrev called : TablesView
    called = record before { clients = clients }

    set_serves : (asked : Asked) (a : Answer) → (AreBare before → TxnBytes any_byte no_slice before.kv y) →
        (AreFull old.settings before → TxnBytes (has_copies old.settings.replicas) no_slice before.kv y) → AddsBytes kind (between old new) old.settings
        asked.given a
        → HasCause kind (between old new) old.settings ⊥ (AreBased before) (AreFull old.settings before) asked.given a → IsPlaced kind (between old new)
        old.settings asked a → HasFailed asked.fails a
        → Serves kind (between old new) old.settings ⊥ (before, called) asked a
    set_serves asked a bare full adds caused placed failed = record {
      inside = keeps_bytes (is_inside kind (stores new) old.settings) any_slice before called c y sound
          (record { clients = sets; kv = refl; next_tx = refl; beside = refl }) own later;
      bare = λ free h. keeps_bytes any_byte no_slice before called c y sound (record { clients = sets; kv = refl; next_tx = refl; beside = refl }) (bare h) h;
      full = λ free h. keeps_bytes (has_copies old.settings.replicas) no_slice before called c y sound
          (record { clients = sets; kv = refl; next_tx = refl; beside = refl }) (full h) h;
      adds = adds;
      caused = caused;
      placed = placed;
      failed = failed;
    }

    same_bytes : (P : List Place → Bool) (Q : Slice → Bool) → y ≡ x → TablesBytes P Q before → TxnBytes P Q before.kv y
    same_bytes P Q same h = subst (TxnBytes P Q before.kv) (sym same) (h.each c x there)

    abbrev asked : Op (List ℕ) → Asked
    asked o = line_asked kind (between old new) (lent_by old new) before (Event.Client c (Verb.Call o))

    -- a call
    pub call_serves : IsRing old.settings.servers old.ring.now.points → (o : Op (List ℕ)) (a : Answer)
        → CallOf (turn kind old new before.kv before.kv x y) o (Ok a) → Serves kind (between old new) old.settings ⊥ (before, called) (asked o) a
    call_serves ring o a call = by (call_refusal x) refl
      where
        by : (r : Option Word) → call_refusal x ≡ r → Serves kind (between old new) old.settings ⊥ (before, called) (asked o) a
        by None is =
            let did = call.made (ap (option_map Answer.Refused) is) in
            let plain = logged_plain a did.called.logged.answer in
            set_serves (asked o) a
            (λ h. did.named.names any_byte no_slice refl (h.each c x there) (no_lists any_byte did.named.lists) (any_own did.own))
            (λ h. did.named.names (has_copies old.settings.replicas) no_slice refl (h.each c x there)
            (no_lists (has_copies old.settings.replicas) did.named.lists) (own_full kind old new (seen before.kv x.at) x.session o did.own did.stored))
            (call_adds kind old new (seen before.kv x.at) x.session o did.own a did.stored did.called.lacks did.done call.reads)
            (plain_caused kind (between old new) old.settings ⊥ (AreBased before) (AreFull old.settings before) (Data (data_of_op o)) a plain)
            (λ ok some.
            let put = call_placed kind old new (seen before.kv x.at) x.session o did.own a did.stored did.called.lacks ok some in
            (put.0, (old, new, lent_to old new ring, (x, there, put.1)), put.2, put.3)) (plain_failed (asked o).fails a plain)
        by (Some w) is =
            let all = refusal_of Fault x y old new (call_refusal x) w a is (as_words x y old new (Ok a) (call_refusal x) call.instead) in
            subst (λ (r : Answer). Serves kind (between old new) old.settings ⊥ (before, called) (asked o) r) (sym all.0)
            (set_serves (asked o) (Answer.Refused w) (same_bytes any_byte no_slice all.1) (same_bytes (has_copies old.settings.replicas) no_slice all.1)
            (refused_adds kind (between old new) old.settings (Data (data_of_op o)) (Answer.Refused w) tt (same_lengths kind old new all.2))
            (plain_caused kind (between old new) old.settings ⊥ (AreBased before) (AreFull old.settings before) (Data (data_of_op o)) (Answer.Refused w) tt)
            (refused_placed kind (between old new) old.settings (asked o) (Answer.Refused w) tt) (plain_failed (asked o).fails (Answer.Refused w) tt))

    -- a call that failed
    pub fault_serves : IsRing old.settings.servers old.ring.now.points → (o : Op (List ℕ)) (why : Fault) (a : Answer) → fault_answer why ≡ Some a
        → CallOf (turn kind old new before.kv before.kv x y) o (Err why) → Serves kind (between old new) old.settings ⊥ (before, called) (asked o) a
    fault_serves ring o why a is call =
        let same = call.err (memory_none why a is) in
        set_serves (asked o) a (same_bytes any_byte no_slice same) (same_bytes (has_copies old.settings.replicas) no_slice same)
        (fault_adds kind old new (seen before.kv x.at) x.session o why a is call.fault call.leaves call.reads)
        (call_by (AreFull old.settings before) no_slice (λ h. h) c x o why a there is (no_reads old (seen before.kv x.at)) call.fault)
        (fault_placed kind (between old new) old.settings (asked o) why a is)
        (has_failed (asked o).fails why a is (old, new, lent_to old new ring, (x, there, call.fault)))
