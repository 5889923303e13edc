-- What any call does, from what its own does.
use Rattle.std.proofs.Common.{◌≡◌, ℕ, true, false, ◌++◌, List, [], length, Option, None, Some, Result, Ok, Err, refl, sym, ◌∙◌, subst, append-nil}
use Rattle.std.specs.Borrow.{Bor}
use Rattle.std.specs.Option.{option_map}
use Rattle.std.specs.Prelude.{IfOk, IfErr, OnOk, OnErr, IsSome}
use Rattle.wtf_base.specs.declared.fault.Fault.{Fault}
use Rattle.wtf_base.specs.declared.fault.Fault.TheVariants as fault
use Rattle.wtf_base.specs.declared.memory.OutOfMemory.{OutOfMemory}
use Rattle.wtf_base.specs.declared.slice.Slice.{Slice}
use Rattle.wtf_dev.specs.Store.{StoreKind, KindLaws}
use Rattle.wtf_occ.specs.Attempts.{Attempted, Grows}
use Rattle.wtf_occ.proofs.AttemptLaws.{GrowsBy-nothing, Grows-by}
use Rattle.wtf_ring.specs.Points.{PlaceView}
use Rattle.wtf_model.specs.Steps.{IsLogged}
use Rattle.wtf_model.specs.declared.answer.Answer.{Answer}
use Rattle.wtf_model.specs.declared.op.Op.{Op}
use Rattle.wtf_model.specs.declared.op.Op.TheVariants as op
use Rattle.wtf_values.specs.declared.key.Key.{Key}
use Rattle.wtf_values.specs.declared.value.Delta.{Delta}
use Rattle.wtf_meta.specs.declared.session.Handle.{Handle}
use Rattle.wtf_meta.specs.Maps.{Map}
use Rattle.wtf_meta.specs.Calls.{Caller, Did, InHand}
use Rattle.wtf_meta.specs.Sessions.{SessionView, handle_in}
use Rattle.wtf_region.specs.declared.dev.Dev.{Dev}
use Rattle.wtf_region.specs.Devs.{IsSoundDev, GoesOn, stores, between}
use Rattle.wtf_region.proofs.Spans.{goes_nowhere}
use Rattle.wtf_rw.specs.declared.op.Done.{Done}
use Rattle.wtf_rw.specs.declared.op.Given.TheVariants.{Fresh, Stored}
use Rattle.wtf_rw.specs.declared.op.RwOp.{RwOp}
use Rattle.wtf_rw.specs.declared.op.RwOp.TheVariants as rw
use Rattle.wtf_steps.specs.Faults.{MayFault}
use Rattle.wtf_steps.specs.Holding.{LeavesHand}
use Rattle.wtf_steps.specs.Leaving.{LeavesStores}
use Rattle.wtf_steps.specs.Made.{Makes}
use Rattle.wtf_steps.specs.Recalling.{RecallsFor}
use Rattle.wtf_steps.specs.Recorded.{append_keys}
use Rattle.wtf_steps.specs.Scenes.{Scene}
use Rattle.wtf_steps.specs.Steps.{IsStepWith, IsRefusal, in_hand}
use Rattle.wtf_steps.proofs.Making.{makes_nothing}
use Rattle.wtf_steps.proofs.Leaving.{leaves_all, leaves_read}
use Rattle.wtf_steps.proofs.Recalling.{recalls_none}
use Rattle.wtf_rw.specs.Called.{Looks, PutsBytes, ReadsBytes, RwOf, plain_of}
use Rattle.wtf_rw.specs.Changed.{RwMade}
use Rattle.wtf_rw.specs.Held.{RwHolds}
use Rattle.wtf_rw.specs.Ops.{DoesRw, DoesPlain, IsPlainStep, IsRwOwn, OwnBy, LacksOwn, NeedsNoStore, IsRwFault, IsBare, IsBareAnswer}
use Rattle.wtf_rw.specs.Ops.{place_at, place_at_end, rw_keys, rw_place, rw_len}
use Rattle.wtf_rw.specs.Reads.{TellsRead, RwReads}
use Rattle.wtf_rw.specs.Stored.{TellsOwn, IsOwn}

-- less is known of what a call did
weaker : (F G : Did → Type 0) (x : Caller) (b : Map) (old new : InHand) (o : Op (List ℕ)) (a : Answer) → ((did : Did) → F did → G did)
    → IsStepWith F x b old new o a → IsStepWith G x b old new o a
weaker F G x b old new o a less step = record { did = step.did; grows = step.grows; is_call = step.is_call; more = less step.did step.more }

-- the same call by another name
pub named : {S : Type 0} (sc : Scene S) (old new : InHand) (o p : RwOp) (r : Result Done Fault) → o ≡ p → RwOf sc old new p r → RwOf sc old new o r
named sc old new o p r is call = subst (λ (q : RwOp). RwOf sc old new q r) (sym is) call

abbrev still : {S : Type 0} → StoreKind S → Dev S → Map → Scene S
still kind dev w = record { kind = kind; before = dev; after = dev; map = w }

no_some : (o : Option Slice) → o ≡ None → IsSome o → ⊥
no_some None none some = let bad : false ≡ true = some in absurd (cc)
no_some (Some s) none some = absurd (cc)

-- what is so of each of them
record IsStill {S : Type 0} (kind : StoreKind S) (dev : Dev S) (w : Map) (s : SessionView) (p : RwOp) : Type 0 where
  does : (bytes : List ℕ) (did : Did) → DoesPlain p bytes did → DoesRw (still kind dev w) p None bytes did
  own : IsRwOwn kind dev dev w s p None
  reads : RwReads dev.settings.region w s p []
  lacks : (a : Answer) → LacksOwn p None a
  fault : IsRwFault kind dev dev w s p fault.Memory

module _ {S : Type 0} (kind : StoreKind S) (dev : Dev S) (w : Map) (s : SessionView) where
  is_still : (p : RwOp) → NeedsNoStore p → IsStill kind dev w s p
  is_still (rw.Open f p) plain = record { does = λ bytes did h. (h, refl); own = (refl, refl); reads = refl; lacks = λ a. tt; fault = refl }
  is_still (rw.Close f) plain = record { does = λ bytes did h. (h, refl); own = (refl, refl); reads = refl; lacks = λ a. tt; fault = refl }
  is_still (rw.Seek f place) plain = record { does = λ bytes did h. (h, refl); own = (refl, refl); reads = refl; lacks = λ a. tt; fault = refl }
  is_still (rw.Tell f) plain = record { does = λ bytes did h. (h, refl); own = (refl, refl); reads = refl; lacks = λ a. tt; fault = refl }
  is_still (rw.Read f n) plain = absurd plain
  is_still (rw.Write f (Fresh bs)) plain = absurd plain
  is_still (rw.Write f (Stored kept)) plain = record { does = λ bytes did h. (h, refl); own = (refl, refl); reads = refl; lacks = λ a. tt; fault = refl }
  is_still (rw.Append f (Fresh bs)) plain = absurd plain
  is_still (rw.Append f (Stored kept)) plain = record { does = λ bytes did h. (h, refl); own = (refl, refl); reads = refl; lacks = λ a. tt; fault = refl }
  is_still (rw.Truncate f n) plain = record { does = λ bytes did h. (h, refl); own = (refl, refl); reads = refl; lacks = λ a. tt; fault = refl }
  is_still (rw.Punch f n) plain = record { does = λ bytes did h. (h, refl); own = (refl, refl); reads = refl; lacks = λ a. tt; fault = refl }
  is_still (rw.Stat p) plain = record { does = λ bytes did h. (h, refl); own = (refl, refl); reads = refl; lacks = λ a. tt; fault = refl }

-- what such a call does, with its result
pub record Plain (b : ℕ) (w : Map) (old new : InHand) (p : RwOp) (r : Result Answer OutOfMemory) : Type 0 where
  pub keys : OnOk r (new.at.reads ≡ old.at.reads ++ rw_keys b w old.session p)
  pub step : IfOk r (λ a. IsPlainStep b w old new p a)
  pub made : IfOk r (λ a. Makes a (RwMade b w old.session p None) old.at new.at)
  pub holds : IfOk r (λ a. LeavesHand a (RwHolds b w p) old.session new.session)
  pub answers : IfOk r (λ a. IsBareAnswer b w old.session p a)
  pub bare : OnOk r (IsBare p → (new.at.changes ≡ old.at.changes) × (new.session ≡ old.session))
  pub logged : IfOk r (λ a. IsLogged a)
  pub refused : IfOk r (λ a. IsRefusal a → (new.at.changes ≡ old.at.changes) × (new.session ≡ old.session))
  pub err : OnErr r (new.session ≡ old.session)
  pub grows : Grows old.at new.at

plain_is : {S : Type 0} {kind : StoreKind S} → KindLaws kind → (dev : Dev S) → IsSoundDev kind dev
    → (w : Map) (old new : InHand) (p : RwOp) (r : Result Answer OutOfMemory)
    → NeedsNoStore p → Plain dev.settings.region w old new p r → RwOf (still kind dev w) old new p (plain_of r)
plain_is {kind = kind} laws dev sound w old new p (Ok a) plain call =
    let all = is_still kind dev w old.session p plain in
    let left = leaves_all kind None 0 dev in
    record {
      keys = call.keys;
      step = λ x bytes size writes whole. weaker (DoesPlain p bytes) (DoesRw (still kind dev w) p None bytes) x w old new _ a (all.does bytes)
          (call.step x bytes size writes whole);
      made = call.made;
      holds = call.holds;
      recalls = recalls_none kind a (RwReads dev.settings.region w old.session p) dev dev all.reads refl;
      own = all.own;
      lacks = all.lacks a;
      done = λ some. absurd (no_some None refl some);
      logged = call.logged;
      refused = λ h. let same = call.refused h in (refl, refl, same.0, same.1);
      answers = call.answers;
      bare = call.bare;
      fault = tt;
      due = tt;
      err = tt;
      grows = call.grows;
      leaves = leaves_all kind (rw_place dev w old.session p) (rw_len p) dev;
      still = λ needs. refl;
      reads = λ none. record { down = left.down; lengths = left.files; syncs = left.syncs };
      lists = λ none. refl;
      dev = goes_nowhere laws dev sound;
    }
plain_is {kind = kind} laws dev sound w old new p (Err e) plain call =
    let all = is_still kind dev w old.session p plain in
    let left = leaves_all kind None 0 dev in
    record {
      keys = tt;
      step = tt;
      made = tt;
      holds = tt;
      recalls = tt;
      own = tt;
      lacks = tt;
      done = tt;
      logged = tt;
      refused = tt;
      answers = tt;
      bare = tt;
      fault = all.fault;
      due = λ bytes writes x told T size st h. tt;
      err = call.err;
      grows = call.grows;
      leaves = leaves_all kind (rw_place dev w old.session p) (rw_len p) dev;
      still = λ needs. refl;
      reads = λ none. record { down = left.down; lengths = left.files; syncs = left.syncs };
      lists = λ none. refl;
      dev = goes_nowhere laws dev sound;
    }

pub plain_call : {S : Type 0} {kind : StoreKind S} → KindLaws kind → (dev : Dev S) → IsSoundDev kind dev
    → (w : Map) (old new : InHand) (o p : RwOp) (r : Result Answer OutOfMemory) (q : Result Done Fault)
    → o ≡ p → q ≡ plain_of r → NeedsNoStore p → Plain dev.settings.region w old new p r → RwOf (still kind dev w) old new o q
plain_call {kind = kind} laws dev sound w old new o p r q is out plain call =
    named (still kind dev w) old new o p q is
    (subst (λ (u : Result Done Fault). RwOf (still kind dev w) old new p u) (sym out) (plain_is laws dev sound w old new p r plain call))

-- one that looks at metadata alone
pub looks_plain : (b : ℕ) (w : Map) (old new : InHand) (p : RwOp) (r : Result Answer OutOfMemory) → IfOk r (λ a. IsPlainStep b w old new p a)
    → IfOk r (λ a. LeavesHand a (RwHolds b w p) old.session new.session) → Looks (rw_keys b w old.session p) old new r
    → RwMade b w old.session p None [] → (IsBare p → ⊥) → Plain b w old new p r
looks_plain b w old new p (Ok a) step holds looks none never = record {
  keys = looks.records;
  step = step;
  made = makes_nothing a (RwMade b w old.session p None) old.at new.at none looks.same;
  holds = holds;
  answers = λ x bytes size writes bare. absurd (never bare);
  bare = λ bare. absurd (never bare);
  logged = looks.logged;
  refused = λ h. (looks.same, looks.refused h);
  err = tt;
  grows = looks.grows;
}
looks_plain b w old new p (Err e) step holds looks none never =
    record { keys = tt; step = tt; made = tt; holds = tt; answers = tt; bare = tt; logged = tt; refused = tt; err = looks.err; grows = looks.grows }

-- and at none of it
pub looks_nowhere : (at : Attempted Key Delta) (s t : SessionView) (a : Answer) → IsLogged a → (IsRefusal a → t ≡ s)
    → Looks [] (in_hand at s) (in_hand at t) (Ok a)
looks_nowhere at s t a logged refused = record {
  records = sym (append-nil at.reads);
  same = refl;
  logged = logged;
  refused = refused;
  err = tt;
  grows = Grows-by at at [] [] (GrowsBy-nothing at);
}

-- an answer without a slice
abbrev done_with : Done → Result Done Fault
done_with d = Ok d

pub only_is : (d : Done) (a : Answer) → d.answer ≡ a → d.own ≡ None → done_with d ≡ plain_of (Ok a)
only_is d a is none =
    subst (λ (r : Answer). done_with d ≡ done_with (record { answer = r; own = None })) is
    (subst (λ (q : Option Slice). done_with d ≡ done_with (record { answer = d.answer; own = q })) none refl)

-- no key is recorded
pub no_keys : {A E : Type 0} (r : Result A E) (old new : List Key) → OnOk r (new ≡ old) → OnOk r (new ≡ old ++ [])
no_keys (Ok a) old new same = same ∙ sym (append-nil old)
no_keys (Err e) old new same = tt

-- what is so whatever the answer is
pub if_ok_all : {A E : Type 0} (P : A → Type 0) (r : Result A E) → ((a : A) → P a) → IfOk r P
if_ok_all P (Ok a) all = all a
if_ok_all P (Err e) all = tt

pub on_ok : {A E : Type 0} (P Q : Type 0) (r : Result A E) → (P → Q) → OnOk r P → OnOk r Q
on_ok P Q (Ok a) then_so has = then_so has
on_ok P Q (Err e) then_so has = tt

-- what came of bytes that were to be stored, for a handle that may be open
own_by : {S : Type 0} (kind : StoreKind S) (old new : Dev S) (o : Option Handle) (place : Handle → PlaceView) (bytes : List ℕ) (own : Option Slice)
    → ((h : Handle) → o ≡ Some h → IsOwn kind old new (place h) bytes own) → (o ≡ None → (new ≡ old) × (own ≡ None)) → OwnBy kind old new o place bytes own
own_by kind old new None place bytes own put closed = closed refl
own_by kind old new (Some h) place bytes own put closed = put h refl

-- a call that is to store bytes where a handle stands
pub write_of : {S : Type 0} (kind : StoreKind S) (dev left : Dev S) (w : Map) (old new : InHand) (f : ℕ) (bs : Bor (List ℕ)) (r : Result Done Fault)
    → OnOk r (new.at.reads ≡ old.at.reads)
    → IfOk r (λ d. (x : Caller) (b : Map) → x.size ≡ dev.settings.region
    → IsStepWith (TellsOwn kind (stores dev) (stores left) d.own) x b old new (op.Write f bs.now) d.answer)
    → IfOk r (λ d. Makes d.answer (RwMade dev.settings.region w old.session (rw.Write f (Fresh bs)) d.own) old.at new.at)
    → IfOk r (λ d. LeavesHand d.answer (RwHolds dev.settings.region w (rw.Write f (Fresh bs))) old.session new.session)
    → IfOk r (λ d. (h : Handle) → handle_in old.session f ≡ Some h → IsOwn kind dev left (place_at dev h) bs.now d.own)
    → IfErr r (λ why. (b : Map) → MayFault dev.settings b old.session (op.Write f bs.now) why)
    → LeavesStores kind (option_map (place_at dev) (handle_in old.session f)) (length bs.now) (between dev left)
    → PutsBytes (record { kind = kind; before = dev; after = left }) old new (handle_in old.session f) bs.now r
    → RwOf (record { kind = kind; before = dev; after = left; map = w }) old new (rw.Write f (Fresh bs)) r
write_of kind dev left w old new f bs (Ok d) keys step made holds own due leaves puts = record {
  keys = keys ∙ sym (append-nil old.at.reads);
  step = λ x bytes size writes whole. subst (λ (l : List ℕ). IsStepWith (TellsOwn kind (stores dev) (stores left) d.own) x w old new (op.Write f l) d.answer)
      (sym writes) (step x w size);
  made = made;
  holds = holds;
  recalls = recalls_none kind d.answer (RwReads dev.settings.region w old.session (rw.Write f (Fresh bs))) dev left refl puts.lists;
  own = own_by kind dev left (handle_in old.session f) (place_at dev) bs.now d.own own puts.closed;
  lacks = puts.lacks;
  done = puts.done;
  logged = puts.logged;
  refused = puts.refused;
  answers = λ x bytes size writes bare. absurd bare;
  bare = λ bare. absurd bare;
  fault = tt;
  due = tt;
  err = tt;
  grows = puts.grows;
  leaves = leaves;
  still = λ needs. absurd needs;
  reads = λ none. absurd none;
  lists = λ none. puts.lists;
  dev = puts.dev;
}
write_of kind dev left w old new f bs (Err why) keys step made holds own due leaves puts = record {
  keys = tt;
  step = tt;
  made = tt;
  holds = tt;
  recalls = tt;
  own = tt;
  lacks = tt;
  done = tt;
  logged = tt;
  refused = tt;
  answers = tt;
  bare = tt;
  fault = puts.fault;
  due = λ bytes writes. subst (λ (l : List ℕ). MayFault dev.settings w old.session (op.Write f l) why) (sym writes) (due w);
  err = puts.err;
  grows = puts.grows;
  leaves = leaves;
  still = λ needs. absurd needs;
  reads = λ none. absurd none;
  lists = λ none. puts.lists;
  dev = puts.dev;
}

-- or at the end of its file
pub append_of : {S : Type 0} (kind : StoreKind S) (dev left : Dev S) (w : Map) (old new : InHand) (f : ℕ) (bs : Bor (List ℕ)) (r : Result Done Fault)
    → new.session ≡ old.session
    → OnOk r (new.at.reads ≡ old.at.reads ++ append_keys dev.settings.region w (handle_in old.session f) (length bs.now))
    → IfOk r (λ d. (x : Caller) → x.size ≡ dev.settings.region → IsStepWith (TellsOwn kind (stores dev) (stores left) d.own) x w old new (op.Append f bs.now)
    d.answer)
    → IfOk r (λ d. Makes d.answer (RwMade dev.settings.region w old.session (rw.Append f (Fresh bs)) d.own) old.at new.at)
    → IfOk r (λ d. (h : Handle) → handle_in old.session f ≡ Some h → IsOwn kind dev left (place_at_end dev w h) bs.now d.own)
    → IfErr r (MayFault dev.settings w old.session (op.Append f bs.now))
    → LeavesStores kind (option_map (place_at_end dev w) (handle_in old.session f)) (length bs.now) (between dev left)
    → PutsBytes (record { kind = kind; before = dev; after = left }) old new (handle_in old.session f) bs.now r
    → RwOf (record { kind = kind; before = dev; after = left; map = w }) old new (rw.Append f (Fresh bs)) r
append_of kind dev left w old new f bs (Ok d) same keys step made own due leaves puts = record {
  keys = keys;
  step = λ x bytes size writes whole. subst (λ (l : List ℕ). IsStepWith (TellsOwn kind (stores dev) (stores left) d.own) x w old new (op.Append f l) d.answer)
      (sym writes) (step x size);
  made = made;
  holds = record { refused = λ h. same; made = λ going. same };
  recalls = recalls_none kind d.answer (RwReads dev.settings.region w old.session (rw.Append f (Fresh bs))) dev left refl puts.lists;
  own = own_by kind dev left (handle_in old.session f) (place_at_end dev w) bs.now d.own own puts.closed;
  lacks = puts.lacks;
  done = puts.done;
  logged = puts.logged;
  refused = puts.refused;
  answers = λ x bytes size writes bare. absurd bare;
  bare = λ bare. absurd bare;
  fault = tt;
  due = tt;
  err = tt;
  grows = puts.grows;
  leaves = leaves;
  still = λ needs. absurd needs;
  reads = λ none. absurd none;
  lists = λ none. puts.lists;
  dev = puts.dev;
}
append_of kind dev left w old new f bs (Err why) same keys step made own due leaves puts = record {
  keys = tt;
  step = tt;
  made = tt;
  holds = tt;
  recalls = tt;
  own = tt;
  lacks = tt;
  done = tt;
  logged = tt;
  refused = tt;
  answers = tt;
  bare = tt;
  fault = puts.fault;
  due = λ bytes writes. subst (λ (l : List ℕ). MayFault dev.settings w old.session (op.Append f l) why) (sym writes) due;
  err = puts.err;
  grows = puts.grows;
  leaves = leaves;
  still = λ needs. absurd needs;
  reads = λ none. absurd none;
  lists = λ none. puts.lists;
  dev = puts.dev;
}

-- a call that shows bytes
pub read_of : {S : Type 0} (kind : StoreKind S) (dev left : Dev S) (w : Map) (old new : InHand) (f n : ℕ) (r : Result Done Fault)
    → IfOk r (λ d. (x : Caller) → x.size ≡ dev.settings.region → IsStepWith (TellsRead kind dev left w) x w old new (op.Read f n) d.answer)
    → IfOk r (λ d. LeavesHand d.answer (RwHolds dev.settings.region w (rw.Read f n)) old.session new.session)
    → IfOk r (λ d. RecallsFor kind d.answer (RwReads dev.settings.region w old.session (rw.Read f n)) dev left)
    → IfErr r (IsRwFault kind dev left w old.session (rw.Read f n)) → IfErr r (MayFault dev.settings w old.session (op.Read f n))
    → ReadsBytes (record { kind = kind; before = dev; after = left }) (rw_keys dev.settings.region w old.session (rw.Read f n)) old new r
    → GoesOn kind dev left []
    → RwOf (record { kind = kind; before = dev; after = left; map = w }) old new (rw.Read f n) r
read_of kind dev left w old new f n (Ok d) step holds recalls fault due reads goes = record {
  keys = reads.records;
  step = λ x bytes size writes whole. weaker (TellsRead kind dev left w) (λ did. TellsRead kind dev left w did × (d.own ≡ None)) x w old new (op.Read f n)
      d.answer (λ did tells. (tells, reads.none)) (step x size);
  made = makes_nothing d.answer (RwMade dev.settings.region w old.session (rw.Read f n) d.own) old.at new.at refl reads.same;
  holds = holds;
  recalls = recalls;
  own = reads.none;
  lacks = tt;
  done = λ some. absurd (no_some d.own reads.none some);
  logged = reads.logged;
  refused = λ h. let same = reads.refused h in (same.0, reads.none, reads.same, same.1);
  answers = λ x bytes size writes bare. absurd bare;
  bare = λ bare. absurd bare;
  fault = tt;
  due = tt;
  err = tt;
  grows = reads.grows;
  leaves = leaves_read kind (between dev left) 0 reads.reads;
  still = λ needs. absurd needs;
  reads = λ none. reads.reads;
  lists = λ none. absurd none;
  dev = goes;
}
read_of kind dev left w old new f n (Err why) step holds recalls fault due reads goes = record {
  keys = tt;
  step = tt;
  made = tt;
  holds = tt;
  recalls = tt;
  own = tt;
  lacks = tt;
  done = tt;
  logged = tt;
  refused = tt;
  answers = tt;
  bare = tt;
  fault = fault;
  due = λ bytes writes. due;
  err = reads.err;
  grows = reads.grows;
  leaves = leaves_read kind (between dev left) 0 reads.reads;
  still = λ needs. absurd needs;
  reads = λ none. reads.reads;
  lists = λ none. absurd none;
  dev = goes;
}
