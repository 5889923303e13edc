-- What the calls of a client's transaction make of the tables.
use Rattle.wtf_clients.proofs.Common.{option_map, remove_key, Fault, OutOfMemory, Store, IsPinnedOnceMore, times_pinned, Key, Value, Answer, Aborted', Word, Op}
use Rattle.wtf_clients.proofs.Common.{Verb, Tree, answers_of, IsDone, IsReadFault, MayFail, Told, metadata_at, seen, Stands, cap_for, StoreKind, IsRing, Dev}
use Rattle.wtf_clients.proofs.Common.{GoesOn, between, MayStandFor, TxnView, begun, hand_of, call_refusal, try_refusal, step_refusal, unmade, IsFit, LogStands}
use Rattle.wtf_clients.proofs.Common.{caller_at, fault_answer, MayFaultAt, MayEndFault, IsAttempted, KeepsMaps, KeepsPins, commit_from, IsInstall, IsStepped}
use Rattle.wtf_clients.proofs.Common.{IsEnded, IsTrueAttempt, IsTrueStep, IsTrueEnd, Turn, turn, CallOf, StepOf, CommitOf, ActsAgain, fit_after, Clients}
use Rattle.wtf_clients.proofs.Common.{TablesView, of_client, metadata_now, owned, IsOpen, AreSound, Sets, lent_by, Seeing, seeing, Refuses, Begins, Ends, Tries}
use Rattle.wtf_clients.proofs.Common.{TryTurn, TablesStay, ListsAreTold, ReadsLists, CallFails, StepTurn, Finals, ClientTurn, ◌≡◌, ℕ, ◌+◌, true, false, cond}
use Rattle.wtf_clients.proofs.Common.{nat_eq, List, [], ◌∷◌, ◌++◌, Option, None, Some, is_some, Result, Ok, IfOk, OnErr, IfSome, MatchOption, refl, sym, ap}
use Rattle.wtf_clients.proofs.Common.{subst, ◌∙◌, true≢false, ◌⊎◌, inl, inr, Err, slice_get, arith}
use Rattle.wtf_clients.specs.Turns.{Calls}
use Rattle.wtf_clients.proofs.{Lists.sets_added, Lists.sets_same, Lists.sets_then, Lists.Writes, Known.lent_to, Known.knows, Known.knows_stops}
use Rattle.wtf_clients.proofs.{Known.recalled_in, Known.starts_now, Staying.fault_is}
use Rattle.wtf_clients.proofs.{Frames.sound_turned, Known.knows_redone, Known.knows_install, Known.starts_sound, Lacking.memory_none, Staying.same_stays}

-- a match on an option that is known
pub at_none : {A : Type 0} (o : Option A) (P : Type 0) (Q : A → Type 0) → o ≡ None → P → MatchOption o P Q
at_none o P Q is p = subst (λ r. MatchOption r P Q) (sym is) p

pub at_some : {A : Type 0} (o : Option A) (x : A) (P : Type 0) (Q : A → Type 0) → o ≡ Some x → Q x → MatchOption o P Q
at_some o x P Q is q = subst (λ r. MatchOption r P Q) (sym is) q

pub at_there : {A : Type 0} (o : Option A) (P : Type 0) (Q : A → Type 0) → is_some o ≡ true → ((x : A) → Q x) → MatchOption o P Q
at_there None P Q h q = absurd (true≢false (sym h))
at_there (Some x) P Q h q = q x

pub nothing_there : {A : Type 0} (o : Option A) → is_some o ≡ false → o ≡ None
nothing_there None h = refl
nothing_there (Some x) h = absurd (true≢false h)

-- the call answered so
abbrev pub answered : Type 0 → Answer → Answer → Type 0
answered E a b = ◌≡◌ {A = Result Answer E} (Ok a) (Ok b)

pub same_answer : (E : Type 0) (a b : Answer) → answered E a b → a ≡ b
same_answer E a b e = cc

-- or failed, which is another thing
abbrev pub failed : Fault → Answer → Type 0
failed why b = ◌≡◌ {A = Result Answer Fault} (Err why) (Ok b)

pub never : (why : Fault) (b : Answer) → failed why b → ⊥
never why b e = cc

-- what follows of each answer
pub if_ok : {E : Type 0} (r : Result Answer E) (P Q : Answer → Type 0) → IfOk r P → ((a : Answer) → P a → Q a) → IfOk r Q
if_ok (Ok a) P Q h on = on a h
if_ok (Err e) P Q h on = tt

pub on_err : {E A : Type 0} (r : Result A E) (Q : Type 0) → Q → OnErr r Q
on_err (Ok a) Q h = tt
on_err (Err e) Q h = h

-- ---- what holds over every device goes on holding
pub kept_sound : (old : TablesView) (kv : Store Key Value) (clients : Clients) (c : ℕ) (x y : TxnView) → AreSound old
    → Writes c old.clients x y clients → y ≡ x → KeepsMaps old.kv kv → KeepsPins old.kv kv → kv.number ≡ old.kv.number
    → AreSound (record old { kv = kv; clients = clients })
kept_sound old kv clients c x y sound writes same maps pins number =
    let open_one = sound.each c x writes.there in
    let based = open_one.based in
    let stays : Sets c (Some x) old.clients clients = subst (λ z. Sets c (Some z) old.clients clients) same writes.sets in
    let own : IsOpen kv old.next_tx x = record {
      going = open_one.going;
      fit = fit_after old.kv kv x x open_one.fit refl refl refl based maps pins;
      based = omega (arith, based, number);
      older = open_one.older;
    } in
    sound_turned old (record old { kv = kv; clients = clients }) c (Some x) sound (record {
      sets = stays;
      later = omega (arith, number);
      maps = maps;
      more = omega arith;
      pins = λ n. let kept = pins n in let had : owned n (of_client old.clients c) ≡ owned n (Some x) = ap (owned n) writes.there in omega (arith, kept, had);
      beside = refl;
      own = λ z is. subst (λ w. IsOpen kv old.next_tx w) (let e : x ≡ z = cc in e) own;
      whose = λ z is. inr (x, writes.there, (let e : x ≡ z = cc in ap (λ (w : TxnView). w.tx) (sym e)));
    })

-- ---- a refusal of the transaction leaves all
refuses : (old new : TablesView) (c : ℕ) (x y : TxnView) (w : Word) (a : Answer) → of_client old.clients c ≡ Some x → Sets c (Some y) old.clients new.clients
    → y ≡ x → new.kv ≡ old.kv → new.next_tx ≡ old.next_tx → new.beside ≡ old.beside → a ≡ Answer.Refused w → Refuses old new c w a
refuses old new c x y w a there sets same kv next beside is = record {
  answer = is;
  keeps = record { clients = subst (λ o. Sets c o old.clients new.clients) (ap Some same ∙ sym there) sets; kv = kv; next_tx = next; beside = beside };
}

-- and so does one of a client that has none, or has one already
pub refused_same : (old : TablesView) (clients : Clients) (c : ℕ) (w : Word) → clients ≡ old.clients
    → Refuses old (record old { clients = clients }) c w (Answer.Refused w)
refused_same old clients c w is =
    record { answer = refl; keeps = record { clients = sets_same c old.clients clients is; kv = refl; next_tx = refl; beside = refl } }

-- ---- a transaction begins
pub begins : (old : TablesView) (kv : Store Key Value) (mid clients : Clients) (c number : ℕ) (x : TxnView) → of_client old.clients c ≡ None
    → number ≡ old.kv.number → mid ≡ old.clients → (of_client mid c ≡ None → clients ≡ mid ++ (c, x) ∷ [])
    → ((q : ℕ) → of_client clients q ≡ cond (nat_eq c q) (Some x) (of_client mid q)) → x ≡ begun old.next_tx old.kv.number
    → kv ≡ record old.kv { pins = old.kv.pins ++ old.kv.number ∷ [] } → IsPinnedOnceMore old.kv.number old.kv kv → IsFit kv x
    → ((size : ℕ) (told : Told) → LogStands size kv told x [])
    → Begins old (record { kv = kv; next_tx = old.next_tx + 1; clients = clients; beside = old.beside }) c (Answer.Begun number)
begins old kv mid clients c number x none is_number is_mid last seen is_x is_kv pinned fit sound =
    let none_mid : of_client mid c ≡ None = ap (λ l. of_client l c) is_mid ∙ none in
    let sets : Sets c (Some x) mid clients = sets_added c mid clients x none_mid (last none_mid) seen in
    record {
      answer = ap Answer.Begun is_number;
      clients = subst (λ l. Sets c (Some (begun old.next_tx old.kv.number)) l clients) is_mid (subst (λ q. Sets c (Some q) mid clients) is_x sets);
      kv = is_kv;
      pinned = pinned;
      next_tx = refl;
      beside = refl;
      fit = subst (λ q. IsFit kv q) is_x fit;
      sound = λ size told. subst (λ q. LogStands size kv told q []) is_x (sound size told);
    }

-- a fault that may stand for an answer is allowed in its place
pub stand_fail : (servers : ℕ) (o : Op (List ℕ)) (d : Answer) (why : Fault) (a : Answer) → fault_answer why ≡ Some a → MayStandFor servers o d why
    → MayFail servers o d a
stand_fail servers o d (Fault.Read k) a is h = subst (MayFail servers o d) (let e : Answer.FaultRead k.0 ≡ a = cc in e) h
stand_fail servers o d Fault.Write a is h = subst (MayFail servers o d) (let e : Answer.FaultWrite ≡ a = cc in e) h
stand_fail servers o d (Fault.Punch k) a is h = subst (MayFail servers o d) (let e : Answer.FaultPunch k.0 ≡ a = cc in e) h
stand_fail servers o d (Fault.Damaged k) a is h = subst (MayFail servers o d) (let e : Answer.Damaged k.0 ≡ a = cc in e) h
stand_fail servers o d Fault.Memory a is h = absurd (let e : None ≡ Some a = is in cc)

pub step_left : (servers : ℕ) (answers : List Answer) (k : ℕ) (why : Fault) (a : Answer) → fault_answer why ≡ Some a
    → MayFaultAt servers answers k (fault_answer why) → IsDone (slice_get answers k) × IsReadFault servers a
step_left servers answers k why a is h = subst (MayFaultAt servers answers k) is h

pub commit_left : (servers : ℕ) (why : Fault) (a : Answer) → fault_answer why ≡ Some a → MayEndFault servers (fault_answer why) → IsReadFault servers a
commit_left servers why a is h = subst (MayEndFault servers) is h

-- a step after which the transaction has ended left its base
over_by : (x y : TxnView) (a : Answer) → x.ended ≡ false → IsStepped x y a → y.ended ≡ true → y.at.base ≡ x.at.base
over_by x y (Answer.Replayed i) going h over = h.base
over_by x y (Aborted' i box a) going h over = h.over.base
over_by x y a going h over = absurd h

-- ---- the transaction goes: its client has none, and one pin of its base is undone
pub ends : (old new : TablesView) (kv : Store Key Value) (mid : Clients) (c : ℕ) (x y : TxnView) → Sets c (Some y) old.clients mid → Sets c None mid new.clients
    → new.next_tx ≡ old.next_tx → new.beside ≡ old.beside → y.at.base ≡ x.at.base → KeepsMaps old.kv kv → KeepsPins old.kv kv
    → IfSome (of_client mid c) (λ q. new.kv ≡ record kv { pins = remove_key (nat_eq q.at.base) kv.pins })
    → IfSome (of_client mid c) (λ q. IsPinnedOnceMore q.at.base new.kv kv) → Ends old new kv c x
ends old new kv mid c x y first last next beside base maps pins is_kv unpinned = record {
  clients = sets_then c old.clients mid new.clients y first last;
  next_tx = next;
  beside = beside;
  maps = maps;
  pins = pins;
  kv = subst (λ n. new.kv ≡ record kv { pins = remove_key (nat_eq n) kv.pins }) base
      (subst (λ o. IfSome o (λ q. new.kv ≡ record kv { pins = remove_key (nat_eq q.at.base) kv.pins })) first.is is_kv);
  unpinned = subst (λ n. IsPinnedOnceMore n new.kv kv) base (subst (λ o. IfSome o (λ q. IsPinnedOnceMore q.at.base new.kv kv)) first.is unpinned);
}

-- a verb that was refused leaves the transaction, and what it was lent
pub refusal_of : (E : Type 0) {D : Type 0} (old new : TxnView) (before after : D) (r : Option Word) (w : Word) (a : Answer) → r ≡ Some w
    → IfSome r (λ v. (answered E a (Answer.Refused v)) × (new ≡ old) × (after ≡ before)) → (a ≡ Answer.Refused w) × (new ≡ old) × (after ≡ before)
refusal_of E old new before after r w a is stopped =
    let all : (answered E a (Answer.Refused w)) × (new ≡ old) × (after ≡ before) =
    subst (λ m. IfSome m (λ v. (answered E a (Answer.Refused v)) × (new ≡ old) × (after ≡ before))) is stopped in
    (same_answer E a (Answer.Refused w) all.0, all.1, all.2)

-- so one that failed was not refused
pub not_refused : {D : Type 0} (old new : TxnView) (before after : D) (r : Option Word) (why : Fault)
    → IfSome r (λ v. (failed why (Answer.Refused v)) × (new ≡ old) × (after ≡ before)) → r ≡ None
not_refused old new before after None why h = refl
not_refused old new before after (Some w) why h = absurd (never why (Answer.Refused w) h.0)

-- what is said of a call's answer, where it is refused
pub as_words : {D : Type 0} (old new : TxnView) (before after : D) (r : Result Answer Fault) (o : Option Word) → IfSome (option_map Answer.Refused o)
    (λ a. (r ≡ Ok a) × (new ≡ old) × (after ≡ before)) → IfSome o (λ w. (r ≡ Ok (Answer.Refused w)) × (new ≡ old) × (after ≡ before))
as_words old new before after r None h = tt
as_words old new before after r (Some w) h = h

-- ---- what a client with a transaction asks for, with what the verb was lent and left
module _ {S : Type 0} (kind : StoreKind S) (dev new : Dev S) (ring : IsRing dev.settings.servers dev.ring.now.points) (old : TablesView) (c : ℕ)
    (x y : TxnView) (there : of_client old.clients c ≡ Some x) (clients : Clients) (sets : Sets c (Some y) old.clients clients) where
  abbrev z : Seeing
  z = seeing kind (between dev new) (lent_by dev new)

  abbrev verb_of : Store Key Value → Turn S
  verb_of left = turn kind dev new old.kv left x y

  -- the transaction is another, and all else as it was
  abbrev now_set : TablesView
  now_set = record old { clients = clients }

  same_now : y ≡ x → TablesStay old now_set c
  same_now same = same_stays old now_set c x y there sets same refl (λ n le. refl) (λ q. refl) (λ n. refl) refl refl

  -- ---- a call
  calls_by : (o : Op (List ℕ)) (a : Answer) → CallOf (verb_of old.kv) o (Ok a) → (r : Option Word) → call_refusal x ≡ r
      → MatchOption r (Calls z old now_set c x o a ⊎ CallFails z old now_set c x o a) (λ w. Refuses old now_set c w a)
  calls_by o a did None is =
      let free : unmade x ≡ None = ap (option_map Answer.Refused) is in
      let made = did.made free in
      inl (record {
        later_one = y;
        own = made.own;
        keeps = record { clients = sets; kv = refl; next_tx = refl; beside = refl };
        called = made.called;
        stored = (dev, new, lent_to dev new ring, made.stored);
        facts = made.lists;
        recalls = recalled_in kind dev new made.lists made.recalls;
        known = knows kind dev new did.dev made.lists made.known;
        reads = made.reads;
        acts = made.acts;
        holds = made.holds;
        fit = did.fit;
        sound = λ tells ops run. did.meaning free ops (starts_sound kind dev tells.0 old tells.1 new old.kv c x y ops there tells.2 run);
      })
  calls_by o a did (Some w) is =
      let all = refusal_of Fault x y dev new (call_refusal x) w a is (as_words x y dev new (Ok a) (call_refusal x) did.instead) in
      refuses old now_set c x y w a there sets all.1 refl refl refl all.0

  pub call_turn : (o : Op (List ℕ)) (a : Answer) → CallOf (verb_of old.kv) o (Ok a) → ClientTurn z old now_set c (Verb.Call o) a
  call_turn o a did = at_some (of_client old.clients c) x _ _ there (calls_by o a did (call_refusal x) refl)

  -- one that failed
  pub call_failed : (o : Op (List ℕ)) (why : Fault) (a : Answer) → fault_answer why ≡ Some a → CallOf (verb_of old.kv) o (Err why)
      → ClientTurn z old now_set c (Verb.Call o) a
  call_failed o why a is did =
      at_some (of_client old.clients c) x _ _ there (at_none (call_refusal x) _ _
      (not_refused x y dev new (call_refusal x) why (as_words x y dev new (Err why) (call_refusal x) did.instead)) (inr (record {
        fails = record { why = why; answer = is; stays = same_now (did.err (memory_none why a is)) };
        may = λ q u s size st holds. stand_fail dev.settings.servers o _ why a is (did.due q u s size st holds);
      })))

  -- ---- a step
  goes_by_step : (b : Answer) → y.ended ≡ false → IsStepped x y b → ActsAgain (verb_of old.kv) b → GoesOn kind dev new [] → IsFit old.kv y
      → (ListsAreTold z old (metadata_at old.kv x.at.base) → (ops : List (Op (List ℕ))) → LogStands z.size old.kv z.told x ops
      → IsTrueStep z.size (z.told, z.later) old.kv (x, y) ops b) → StepTurn z old now_set c x b
  goes_by_step (Answer.Replayed i) still h acts goes fit m = record {
    later_one = y;
    keeps = record { clients = sets; kv = refl; next_tx = refl; beside = refl };
    replayed = h;
    acts = knows_redone kind dev new goes old.kv x x.replayed (hand_of x) (hand_of y) acts.redoes;
    recalls = recalled_in kind dev new acts.redoes.makes.lists acts.recalls;
    fit = fit;
    sound = m;
  }
  goes_by_step (Aborted' i box b) still h acts goes fit m = absurd (true≢false (sym h.over.ended ∙ still))
  goes_by_step b still h acts goes fit m = absurd h

  -- what a step means
  step_means : (a : Answer) → StepOf (verb_of old.kv) (Ok a) → step_refusal x ≡ None → ListsAreTold z old (metadata_at old.kv x.at.base)
      → (ops : List (Op (List ℕ))) → LogStands z.size old.kv z.told x ops → IsTrueStep z.size (z.told, z.later) old.kv (x, y) ops a
  step_means a did free tells ops run = did.meaning free ops (starts_sound kind dev tells.0 old tells.1 new old.kv c x y ops there tells.2 run)

  steps_by : (a : Answer) → StepOf (verb_of old.kv) (Ok a) → y.ended ≡ false → (r : Option Word) → step_refusal x ≡ r
      → MatchOption r (StepTurn z old now_set c x a) (λ w. Refuses old now_set c w a)
  steps_by a did still None is = goes_by_step a still (did.stepped is) (did.acts is) did.dev did.fit (step_means a did is)
  steps_by a did still (Some w) is =
      let all = refusal_of Fault x y dev new (step_refusal x) w a is did.refused in
      refuses old now_set c x y w a there sets all.1 refl refl refl all.0

  pub step_goes : (a : Answer) → StepOf (verb_of old.kv) (Ok a) → y.ended ≡ false → ClientTurn z old now_set c Verb.Step a
  step_goes a did still = at_some (of_client old.clients c) x _ _ there (steps_by a did still (step_refusal x) refl)

  -- one that failed
  pub step_failed : (why : Fault) (a : Answer) → fault_answer why ≡ Some a → StepOf (verb_of old.kv) (Err why) → ClientTurn z old now_set c Verb.Step a
  step_failed why a is did =
      at_some (of_client old.clients c) x _ _ there (at_none (step_refusal x) _ _ (not_refused x y dev new (step_refusal x) why did.refused)
      (by a is (λ ops run t st. step_left dev.settings.servers _ x.replayed why a is (did.due ops run t st))))
    where
      by : (b : Answer) → fault_answer why ≡ Some b
          → ((ops : List (Op (List ℕ))) → LogStands z.size old.kv z.told x ops → (t : Tree) → Stands z.size z.told x.tx 0 (metadata_at old.kv x.at.base) t
          → IsDone (slice_get (answers_of (cap_for (caller_at z.size x.tx 0)) t ops) x.replayed) × IsReadFault z.servers b) → StepTurn z old now_set c x b
      by (Answer.Replayed i) e f = absurd (fault_is why (Answer.Replayed i) e)
      by (Aborted' i box b) e f = absurd (fault_is why (Aborted' i box b) e)
      by b e f = record { fails = record { why = why; answer = e; stays = same_now did.err }; may = f }

  -- ---- the transaction goes, and the store of versions was left as `kv`
  module _ (after : TablesView) (kv : Store Key Value) (taken : Sets c None clients after.clients) (next : after.next_tx ≡ old.next_tx)
      (beside : after.beside ≡ old.beside)
      (is_kv : IfSome (of_client clients c) (λ q. after.kv ≡ record kv { pins = remove_key (nat_eq q.at.base) kv.pins }))
      (unpinned : IfSome (of_client clients c) (λ q. IsPinnedOnceMore q.at.base after.kv kv)) where
    gone : y.at.base ≡ x.at.base → KeepsMaps old.kv kv → KeepsPins old.kv kv → Ends old after kv c x
    gone base maps pins = ends old after kv clients c x y sets taken next beside base maps pins is_kv unpinned

    -- by a step
    ends_by_step : (b : Answer) → kv ≡ old.kv → x.ended ≡ false → y.ended ≡ true → IsStepped x y b → ActsAgain (verb_of old.kv) b → GoesOn kind dev new []
        → (ListsAreTold z old (metadata_at old.kv x.at.base) → (ops : List (Op (List ℕ))) → LogStands z.size old.kv z.told x ops
        → IsTrueStep z.size (z.told, z.later) old.kv (x, y) ops b) → StepTurn z old after c x b
    ends_by_step (Answer.Replayed i) same going over h acts goes m = absurd (true≢false (sym over ∙ ap (λ (q : TxnView). q.ended) h.is ∙ going))
    ends_by_step (Aborted' i box b) same going over h acts goes m = record {
      index = h.index;
      stops = knows_stops kind dev new goes old.kv x i b acts;
      ends = subst (λ s. Ends old after s c x) same
          (gone h.over.base (λ n le. ap (λ s. metadata_at s n) same) (λ n. ap (λ s. times_pinned s n) same));
      deviates = m;
    }
    ends_by_step b same going over h acts goes m = absurd h

    steps_over : (a : Answer) → kv ≡ old.kv → x.ended ≡ false → StepOf (verb_of old.kv) (Ok a) → y.ended ≡ true → (r : Option Word) → step_refusal x ≡ r
        → MatchOption r (StepTurn z old after c x a) (λ w. Refuses old after c w a)
    steps_over a same going did over None is = ends_by_step a same going over (did.stepped is) (did.acts is) did.dev (step_means a did is)
    steps_over a same going did over (Some w) is =
        let all = refusal_of Fault x y dev new (step_refusal x) w a is did.refused in
        absurd (true≢false (sym over ∙ ap (λ (q : TxnView). q.ended) all.1 ∙ going))

    pub step_ends : (a : Answer) → kv ≡ old.kv → x.ended ≡ false → StepOf (verb_of old.kv) (Ok a) → y.ended ≡ true → ClientTurn z old after c Verb.Step a
    step_ends a same going did over = at_some (of_client old.clients c) x _ _ there (steps_over a same going did over (step_refusal x) refl)

    -- the base is what it was, so the transaction has gone as each does
    pub step_gone : (a : Answer) → kv ≡ old.kv → x.ended ≡ false → StepOf (verb_of old.kv) (Ok a) → y.ended ≡ true → Ends old after old.kv c x
    step_gone a same going did over = subst (λ s. Ends old after s c x) same
        (gone (based (step_refusal x) refl) (λ n le. ap (λ s. metadata_at s n) same) (λ n. ap (λ s. times_pinned s n) same))
      where
        based : (r : Option Word) → step_refusal x ≡ r → y.at.base ≡ x.at.base
        based None is = over_by x y a going (did.stepped is) over
        based (Some w) is = ap (λ (q : TxnView). q.at.base) (refusal_of Fault x y dev new (step_refusal x) w a is did.refused).1

    -- by a commit
    pub commit_gone : (a : Answer) → CommitOf (verb_of kv) (Ok a) → Ends old after kv c x
    commit_gone a did = gone did.over.base did.maps did.pins

    commit_by : (a : Answer) → Ends old after kv c x → IsEnded old.kv kv a → IsInstall (ReadsLists z) old.kv kv (commit_from old.kv x) a
        → (ListsAreTold z old (metadata_at old.kv x.at.base) → ListsAreTold z old (metadata_now old.kv)
        → (ops : List (Op (List ℕ))) → LogStands z.size old.kv z.told x ops → IsTrueEnd z.size (z.told, z.later) old.kv kv x ops a) → Finals z old after c x a
    commit_by (Answer.Committed n) over h i m = record { mid = kv; next = h.0; number = h.1; installs = i; ends = over; final = m }
    commit_by (Aborted' k box b) over h i m = record { mid = kv; number = h; gave_up = i; ends = over; deviates = m }
    commit_by b over h i m = absurd h

    pub commit_turn : (a : Answer) → CommitOf (verb_of kv) (Ok a) → ClientTurn z old after c Verb.Commit a
    commit_turn a did =
        at_some (of_client old.clients c) x _ _ there (commit_by a (commit_gone a did) did.ended
        (knows_install kind dev new did.dev old.kv kv (commit_from old.kv x) a did.installs)
        (λ tells now ops run. did.meaning ops (starts_now kind dev tells.0 old tells.1 new kv c x y ops there tells.2 run now.2)))

  -- one that failed
  module _ (kv : Store Key Value) (why : Fault) (did : CommitOf (verb_of kv) (Err why)) where
    abbrev after_commit : TablesView
    after_commit = record old { kv = kv; clients = clients }

    pub commit_stays : TablesStay old after_commit c
    commit_stays = same_stays old after_commit c x y there sets did.err did.err_store.0 did.maps did.err_store.1 did.pins refl refl

    pub commit_failed : (a : Answer) → fault_answer why ≡ Some a → ClientTurn z old after_commit c Verb.Commit a
    commit_failed a is = at_some (of_client old.clients c) x _ _ there (by a is (λ tells now ops run t st. commit_left dev.settings.servers why a is
        (did.due ops (starts_now kind dev tells.0 old tells.1 new kv c x y ops there tells.2 run now.2) t st)))
      where
        by : (b : Answer) → fault_answer why ≡ Some b
            → (ListsAreTold z old (metadata_at old.kv x.at.base) → ListsAreTold z old (metadata_now old.kv) → (ops : List (Op (List ℕ)))
            → LogStands z.size old.kv z.told x ops → (t : Tree) → Stands z.size z.told x.tx 0 (metadata_now old.kv) t → IsReadFault z.servers b)
            → Finals z old after_commit c x b
        by (Answer.Committed n) e f = absurd (fault_is why (Answer.Committed n) e)
        by (Aborted' i box b) e f = absurd (fault_is why (Aborted' i box b) e)
        by b e f = record { fails = record { why = why; answer = e; stays = commit_stays }; may = f }

-- ---- an attempt
module _ (old : TablesView) (kv : Store Key Value) (mid : Clients) (c : ℕ) (x y : TxnView) (a : Answer) (going : x.ended ≡ false)
    (writes : Writes c old.clients x y mid) (stopped : IfSome (try_refusal x) (λ w. (answered OutOfMemory a (Answer.Refused w)) × (y ≡ x) × (kv ≡ old.kv)))
    (tried : try_refusal x ≡ None → IsAttempted old.kv kv x y a)
    (meaning : try_refusal x ≡ None → (size : ℕ) (told : Told) (ops : List (Op (List ℕ))) → LogStands size old.kv told x ops
    → IsTrueAttempt size told old.kv kv (x, y) ops a)
    (maps : KeepsMaps old.kv kv) (fit : IsFit kv y) where
  abbrev now_tried : TablesView
  now_tried = record old { kv = kv; clients = mid }

  goes_by : (b : Answer) → y.ended ≡ false → IsAttempted old.kv kv x y b
      → ((size : ℕ) (told : Told) (ops : List (Op (List ℕ))) → LogStands size old.kv told x ops → IsTrueAttempt size told old.kv kv (x, y) ops b)
      → Tries old now_tried c x b
  goes_by (Answer.Committed n) still h m = absurd (true≢false (sym (ap (λ (z : TxnView). z.ended) h.is) ∙ still))
  goes_by (Answer.Retry b n) still h m = record {
    later = y;
    clients = writes.sets;
    next_tx = refl;
    beside = refl;
    retried = h;
    maps = maps;
    fit = fit;
    sound = m;
  }
  goes_by b still h m = absurd h

  goes_on : (r : Option Word) → try_refusal x ≡ r → y.ended ≡ false → MatchOption r (Tries old now_tried c x a) (λ w. Refuses old now_tried c w a)
  goes_on None is still = goes_by a still (tried is) (meaning is)
  goes_on (Some w) is still =
      let all = refusal_of OutOfMemory x y old.kv kv (try_refusal x) w a is stopped in
      refuses old now_tried c x y w a writes.there writes.sets all.1 all.2 refl refl all.0

  pub try_goes : y.ended ≡ false → TryTurn old (record old { kv = kv; clients = mid }) c x a
  try_goes still = goes_on (try_refusal x) refl still

  module _ (new : TablesView) (taken : Sets c None mid new.clients) (next : new.next_tx ≡ old.next_tx) (beside : new.beside ≡ old.beside)
      (is_kv : IfSome (of_client mid c) (λ q. new.kv ≡ record kv { pins = remove_key (nat_eq q.at.base) kv.pins }))
      (unpinned : IfSome (of_client mid c) (λ q. IsPinnedOnceMore q.at.base new.kv kv)) where
    ends_by : (b : Answer) → y.ended ≡ true → IsAttempted old.kv kv x y b
        → ((size : ℕ) (told : Told) (ops : List (Op (List ℕ))) → LogStands size old.kv told x ops → IsTrueAttempt size told old.kv kv (x, y) ops b)
        → Tries old new c x b
    ends_by (Answer.Committed n) over h m = record {
      mid = kv;
      ended = y;
      committed = h;
      final = m;
      ends = ends old new kv mid c x y writes.sets taken next beside (ap (λ (z : TxnView). z.at.base) h.is) maps
          (λ k. ap (λ l. times_pinned (record kv { pins = l }) k) h.pins) is_kv unpinned;
    }
    ends_by (Answer.Retry b n) over h m = absurd (true≢false (sym over ∙ ap (λ (z : TxnView). z.ended) h.is ∙ going))
    ends_by b over h m = absurd h

    ends_on : (r : Option Word) → try_refusal x ≡ r → y.ended ≡ true → MatchOption r (Tries old new c x a) (λ w. Refuses old new c w a)
    ends_on None is over = ends_by a over (tried is) (meaning is)
    ends_on (Some w) is over =
        let all = refusal_of OutOfMemory x y old.kv kv (try_refusal x) w a is stopped in
        absurd (true≢false (sym over ∙ ap (λ (z : TxnView). z.ended) all.1 ∙ going))

    pub try_ends : y.ended ≡ true → TryTurn old new c x a
    try_ends over = ends_on (try_refusal x) refl over
