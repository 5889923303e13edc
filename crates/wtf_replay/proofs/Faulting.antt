-- A fault of a call that is made once more comes only where the machine allows it.
use Rattle.std.proofs.Common.{◌≡◌, ◌<◌, ◌-◌, ℕ, List, [], ◌∷◌, length, take, Option, None, Some, refl, sym, ap, subst, arith, slice_get, inl, inr}
use Rattle.std.proofs.lemmas.Option.{slice_get_within}
use Rattle.wtf_base.specs.declared.fault.Fault.{Fault}
use Rattle.wtf_base.specs.declared.fault.Fault.TheVariants as fault
use Rattle.wtf_base.specs.declared.kept.Kept.{Kept}
use Rattle.wtf_base.specs.declared.slice.Slice.{Slice}
use Rattle.wtf_base.specs.declared.settings.Settings.{Settings}
use Rattle.wtf_dev.specs.Store.{Range, StoreKind, KindLaws}
use Rattle.wtf_kv.specs.Stores.{Store}
use Rattle.wtf_occ.specs.Tries.{Stays}
use Rattle.wtf_model.specs.declared.answer.Answer.{Answer}
use Rattle.wtf_model.specs.declared.answer.Answer.TheVariants as answer
use Rattle.wtf_model.specs.declared.op.Op.{Op}
use Rattle.wtf_model.specs.declared.op.Op.TheVariants as op
use Rattle.wtf_model.specs.Lawful.{IsDone, IsReadFault, MayFail, MayFailRead, MayFailYank, MayFailPeek, MayFailConcat}
use Rattle.wtf_model.specs.Session.{Session, fresh}
use Rattle.wtf_model.specs.Call.{call}
use Rattle.wtf_model.specs.Transaction.{answers_of, session_after}
use Rattle.wtf_values.specs.declared.key.Key.{Key}
use Rattle.wtf_values.specs.declared.value.Value.{Value}
use Rattle.wtf_values.specs.Keys.{key_cmp}
use Rattle.wtf_log.specs.Standing.{OpStandsFor}
use Rattle.wtf_log.proofs.StandingLaws.{OpsStandFor-get, OpStandsFor-weaker}
use Rattle.wtf_meta.specs.Contents.{Told}
use Rattle.wtf_replica.specs.Bytes.{byte_at}
use Rattle.wtf_meta.specs.Bytes.{MapBytes}
use Rattle.wtf_meta.specs.Maps.{Map, with, metadata_at, seen}
use Rattle.wtf_meta.specs.Trees.{Stands}
use Rattle.wtf_meta.specs.Sessions.{SessionView}
use Rattle.wtf_meta.specs.Calls.{cap_for}
use Rattle.wtf_region.specs.declared.dev.Dev.{Dev}
use Rattle.wtf_region.specs.Apart.{are_apart}
use Rattle.wtf_region.specs.Devs.{stores, told_in}
use Rattle.wtf_steps.specs.Faults.{MayStandFor}
use Rattle.wtf_replay.specs.Views.{TxnView, in_hand, hand_of, replaying}
use Rattle.wtf_replay.specs.Insides.{lists_have}
use Rattle.wtf_replay.specs.Sounds.{tells_slice, caller_at, LogStands, TellsMap, IsAwayTxn}
use Rattle.wtf_replay.specs.Causes.{IsAgainFault, MayAgainFault, FaultAt, ReplayFault, IsCommitFault, fault_answer, MayFaultAt, MayStepFault, MayEndFault}
use Rattle.wtf_replay.specs.Causes.{MayCommitFault}
use Rattle.wtf_replay.specs.Effects.{scope}
use Rattle.wtf_replay.specs.Tried.{commit_from}
use Rattle.wtf_replay.proofs.Froms.{from_along}
use Rattle.wtf_replay.proofs.Installing.{redone_along}
use Rattle.wtf_replay.proofs.Naming.{named_by}
use Rattle.wtf_replay.proofs.Later.{tells_on, stands_later}
use Rattle.wtf_replay.proofs.Sounding.{sound_along}
use Rattle.wtf_replay.proofs.Deviating.{answers_from-at, at_base, before_next}

-- a fault of a read stands in place of an answer that is no refusal
read_done : (servers : ℕ) (d a : Answer) → MayFailRead servers d a → IsDone (Some d) × IsReadFault servers a
read_done servers (answer.Shown (b ∷ bs)) a h = (tt, h)
read_done servers (answer.Shown []) a h = absurd h
read_done servers d a h = absurd h

-- and one of bytes of a slice that are to be shown
peek_done : (servers : ℕ) (d a : Answer) → MayFailPeek servers d a → IsDone (Some d) × IsReadFault servers a
peek_done servers (answer.Shown (b ∷ bs)) (answer.FaultRead j) h = (tt, h)
peek_done servers d a h = absurd h

-- of bytes of a file that are to be kept as a slice
yank_done : (servers : ℕ) (d a : Answer) → MayFailYank servers d a → IsDone (Some d) × IsReadFault servers a
yank_done servers (answer.Len n) a h = (tt, h.1)
yank_done servers d a h = absurd h

-- and of files that are to be put together
concat_done : (servers : ℕ) (d a : Answer) → MayFailConcat servers d a → IsDone (Some d) × IsReadFault servers a
concat_done servers answer.Okay a h = (tt, h)
concat_done servers d a h = absurd h

module _ (servers : ℕ) (answers : List Answer) (k : ℕ) (d : Answer) (is : slice_get answers k ≡ Some d) where
  -- so such a fault is allowed
  may_at : (o : Op (List ℕ)) (why : Fault) → ((a : Answer) → MayFail servers o d a → IsDone (Some d) × IsReadFault servers a) → MayStandFor servers o d why
      → MayFaultAt servers answers k (fault_answer why)
  may_at o (fault.Read j) done h = let r = done (answer.FaultRead j.0) h in (subst IsDone (sym is) r.0, r.1)
  may_at o fault.Write done h = let r = done answer.FaultWrite h in (subst IsDone (sym is) r.0, r.1)
  may_at o (fault.Punch j) done h = let r = done (answer.FaultPunch j.0) h in (subst IsDone (sym is) r.0, r.1)
  may_at o (fault.Damaged j) done h = let r = done (answer.Damaged j.0) h in (subst IsDone (sym is) r.0, r.1)
  may_at o fault.Memory done h = tt

  -- and one of any call
  by_cause : {S : Type 0} (kind : StoreKind S) (old new : Dev S) (w : Map) (s : SessionView) (P : Slice → List ℕ → Type 0) (kept : Op Kept) (o : Op (List ℕ))
      (why : Fault) → OpStandsFor P kept o → IsAgainFault kind old new w s kept why → MayStandFor servers o d why
      → MayFaultAt servers answers k (fault_answer why)
  by_cause kind old new w s P (op.Read f n) o why stands cause may =
      may_at (op.Read f n) why (read_done servers d) (subst (λ q. MayStandFor servers q d why) stands may)
  by_cause kind old new w s P (op.Peek l off n) o why stands cause may =
      may_at (op.Peek l off n) why (peek_done servers d) (subst (λ q. MayStandFor servers q d why) stands may)
  by_cause kind old new w s P (op.Yank f n l) o why stands cause may =
      may_at (op.Yank f n l) why (yank_done servers d) (subst (λ q. MayStandFor servers q d why) stands may)
  by_cause kind old new w s P (op.Concat q ps) o why stands cause may =
      may_at (op.Concat q ps) why (concat_done servers d) (subst (λ r. MayStandFor servers r d why) stands may)
  by_cause kind old new w s P kept o why stands cause may = subst (λ y. MayFaultAt servers answers k (fault_answer y)) (sym cause) tt

pub step_fault : {S : Type 0} (kind : StoreKind S) (old new : Dev S) (kv : Store Key Value) (told : Told) (x : TxnView) (ops : List (Op (List ℕ))) (why : Fault)
    → LogStands old.settings.region kv told x ops
    → FaultAt kind old new kv (hand_of x) (slice_get x.log.ops x.replayed) why → MayStepFault old.settings (metadata_at kv x.at.base) told x ops why
step_fault kind old new kv told x ops why sound f t st =
    let size : ℕ = old.settings.region in
    let cap : ℕ = cap_for (caller_at size x.tx 0) in
    let there = OpsStandFor-get (tells_slice told) x.log.ops ops x.replayed f.op sound.ops_are f.at_op in
    let o : Op (List ℕ) = there.0 in
    let within : x.replayed < length ops = slice_get_within ops x.replayed o there.1.0 in
    let S : Session = session_after cap t (take x.replayed ops) in
    let ran = at_base size kv told x ops sound t st in
    let st2 = before_next size kv told x ops sound t st (omega (arith, within)) in
    let may = f.due o (OpStandsFor-weaker (tells_slice told) (λ p bytes. Unit {0}) f.op o (λ sl bytes own h. tt) there.1.1)
    (caller_at size x.tx x.replayed) told S refl st2 ran.holds in
    by_cause old.settings.servers (answers_of cap t ops) x.replayed (call cap S o).answer (answers_from-at cap (fresh t) ops x.replayed o there.1.0)
    kind old new (seen kv x.at) x.session (tells_slice told) f.op o why there.1.1 f.cause may

-- what a transaction names is the same over a store that shows the same at its base
pub away_along : {S : Type 0} (kind : StoreKind S) (dev : Dev S) (ranges : List (ℕ × Range)) (kv after : Store Key Value) (x : TxnView)
    → metadata_at kv x.at.base ≡ metadata_at after x.at.base → IsAwayTxn kind dev ranges kv x
    → IsAwayTxn kind dev ranges after x
away_along kind dev ranges kv after x same away = record {
  hand = record {
    base = subst (MapBytes (are_apart ranges) (lists_have dev.settings.region (told_in kind dev) (are_apart ranges))) same away.hand.base;
    changes = away.hand.changes;
    slices = away.hand.slices;
  };
  log = away.log;
}

-- a replay's fault over a store that shows the same maps
pub fault_along : {S : Type 0} (kind : StoreKind S) (old new : Dev S) (kv after : Store Key Value) (x : TxnView) (why : Fault)
    → ((m : ℕ) → metadata_at kv m ≡ metadata_at after m)
    → ReplayFault kind old new kv x why → ReplayFault kind old new after x why
fault_along kind old new kv after x why same f = record {
  mid = f.mid;
  goes = f.goes;
  at = f.at;
  session = f.session;
  k = f.k;
  from = f.from;
  base = f.base;
  lists = f.lists;
  redone = redone_along (scope kind old f.mid) kv after x (f.k - x.replayed) f.lists (in_hand f.at f.session) (λ m. sym (same m)) f.redone;
  recalls = f.recalls;
  named = named_by f.named
      (λ P Q were. (record { base = subst (MapBytes P Q) (sym (same x.at.base)) were.0.base; changes = were.0.changes; slices = were.0.slices }, were.1))
      (λ P Q hole were are. record { base = subst (MapBytes P Q) (same f.at.base) are.base; changes = are.changes; slices = are.slices });
  done = λ ops ranges tells away sound.
      sound_along old.settings.region kv after (byte_at kind (stores f.mid)) (replaying x.tx f.at f.session x.log f.k) ops (sym (same f.at.base))
      (f.done ops ranges (subst (TellsMap kind old ranges) (sym (same x.at.base)) tells) (away_along kind old ranges after kv x (sym (same x.at.base)) away)
      (sound_along old.settings.region after kv (byte_at kind (stores old)) x ops (same x.at.base) sound));
  fault = record {
    op = f.fault.op;
    at_op = f.fault.at_op;
    cause = subst (λ w. IsAgainFault kind f.mid new w f.session f.fault.op why) (ap (with f.at.changes) (same f.at.base)) f.fault.cause;
    due = subst (λ w. MayAgainFault f.mid.settings w f.session f.fault.op why) (ap (with f.at.changes) (same f.at.base)) f.fault.due;
  };
}

-- and a commit's over one that stays
pub commit_fault_along : {S : Type 0} (kind : StoreKind S) (old new : Dev S) (kv mid : Store Key Value) (x : TxnView) (why : Fault) → Stays key_cmp kv mid
    → IsCommitFault kind old new mid x why → IsCommitFault kind old new kv x why
commit_fault_along kind old new kv mid x why stays (inl short) = inl short
commit_fault_along kind old new kv mid x why stays (inr f) =
    inr (subst (λ y. ReplayFault kind old new kv y why) (from_along kv mid x stays) (fault_along kind old new mid kv (commit_from mid x) why stays.maps f))

-- a fault of a replay comes only where the machine allows it
pub replay_fault : {S : Type 0} {kind : StoreKind S} → KindLaws kind
    → (old new : Dev S) (kv : Store Key Value) (x : TxnView) (ops : List (Op (List ℕ))) (why : Fault) (ranges : List (ℕ × Range))
    → TellsMap kind old ranges (metadata_at kv x.at.base) → IsAwayTxn kind old ranges kv x
    → LogStands old.settings.region kv (byte_at kind (stores old)) x ops → ReplayFault kind old new kv x why
    → MayCommitFault old.settings (metadata_at kv x.at.base) (byte_at kind (stores old)) x why
replay_fault {kind = kind} laws old new kv x ops why ranges tells away sound f t st =
    let y : TxnView = replaying x.tx f.at f.session x.log f.k in
    let told : Told = byte_at kind (stores f.mid) in
    let size : f.mid.settings.region ≡ old.settings.region = ap (λ (s : Settings). s.region) f.goes.settings in
    let here : LogStands f.mid.settings.region kv told y ops = subst (λ z. LogStands z kv told y ops) (sym size) (f.done ops ranges tells away sound) in
    let later = stands_later old.settings.region (byte_at kind (stores old)) told x.tx 0 (metadata_at kv x.at.base) t (tells_on laws f.goes.each) st in
    let stands : Stands f.mid.settings.region told x.tx 0 (metadata_at kv f.at.base) t =
    subst (λ n. Stands f.mid.settings.region told x.tx 0 (metadata_at kv n) t) (sym f.base)
    (subst (λ z. Stands z told x.tx 0 (metadata_at kv x.at.base) t) (sym size) later) in
    let may = step_fault kind f.mid new kv told y ops why here f.fault t stands in
    let servers : f.mid.settings.servers ≡ old.settings.servers = ap (λ (s : Settings). s.servers) f.goes.settings in
    subst (λ n. MayEndFault n (fault_answer why)) servers (end_fault f.mid.settings.servers _ f.k (fault_answer why) may)
  where
    end_fault : (servers : ℕ) (answers : List Answer) (k : ℕ) (o : Option Answer) → MayFaultAt servers answers k o → MayEndFault servers o
    end_fault servers answers k None h = tt
    end_fault servers answers k (Some a) h = h.1

-- and want of memory at any time
pub end_short : (settings : Settings) (w : Map) (told : Told) (x : TxnView) (why : Fault) → why ≡ fault.Memory → MayCommitFault settings w told x why
end_short settings w told x why short t st = subst (λ (y : Fault). MayEndFault settings.servers (fault_answer y)) (sym short) tt
