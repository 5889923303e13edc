-- What each verb of a transaction is lent and leaves, and what it does with that: a record a verb.
use Rattle.std.specs.Prelude.{◌≡◌, ◌≢◌, ◌⊎◌, ◌<◌, ◌^◌, ℕ, true, false, List, [], ◌∷◌, ◌++◌, Option, None, Result, Ok, Err, IsSome, IfOk, IfErr, IfSome, OnOk}
use Rattle.std.specs.Prelude.{OnErr, slice_get}
use Rattle.wtf_base.specs.declared.fault.Fault.{Fault}
use Rattle.wtf_base.specs.declared.fault.Fault.TheVariants.{Memory}
use Rattle.wtf_base.specs.declared.slice.Slice.{Slice}
use Rattle.wtf_dev.specs.Store.{Range, StoreKind}
use Rattle.wtf_replica.specs.Bytes.{byte_at}
use Rattle.wtf_kv.specs.Stores.{Store}
use Rattle.wtf_occ.specs.Tries.{Stays}
use Rattle.wtf_model.specs.declared.answer.Answer.{Answer, Aborted'}
use Rattle.wtf_model.specs.declared.answer.Answer.TheVariants as answer
use Rattle.wtf_model.specs.declared.op.Op.{Op}
use Rattle.wtf_values.specs.declared.key.Key.{Key}
use Rattle.wtf_values.specs.declared.value.Value.{Value}
use Rattle.wtf_values.specs.Keys.{key_cmp}
use Rattle.wtf_meta.specs.Lists.{ListFact}
use Rattle.wtf_meta.specs.Contents.{Told}
use Rattle.wtf_meta.specs.Maps.{Map, seen, metadata_at}
use Rattle.wtf_region.specs.declared.dev.Dev.{Dev}
use Rattle.wtf_region.specs.Devs.{IsSoundDev, GoesOn, stores, between}
use Rattle.wtf_region.specs.Inside.{IsStoredInside}
use Rattle.wtf_region.specs.Reads.{Recalls}
use Rattle.wtf_region.specs.Showing.{OnlyRead}
use Rattle.wtf_steps.specs.Faults.{MayFault}
use Rattle.wtf_steps.specs.Leaving.{LeavesStores}
use Rattle.wtf_replay.specs.Views.{TxnView, rebased, hand_of}
use Rattle.wtf_replay.specs.Built.{data_len}
use Rattle.wtf_replay.specs.Refusals.{unmade, try_refusal, step_refusal}
use Rattle.wtf_replay.specs.Fits.{IsFit}
use Rattle.wtf_replay.specs.Sounds.{LogStands, TellsMap, IsAwayTxn}
use Rattle.wtf_replay.specs.Insides.{IsInsideTxn, NamesTxn, NamesNow}
use Rattle.wtf_replay.specs.Causes.{IsOwnOf, IsStillOp, StoresNothing, grown_place, IsCallFault, FaultAt, ReplayFault, IsCommitFault, MayStepFault}
use Rattle.wtf_replay.specs.Causes.{MayCommitFault}
use Rattle.wtf_replay.specs.Called.{IsCalled}
use Rattle.wtf_replay.specs.Tried.{IsAttempted, KeepsMaps, KeepsVersions, KeepsPins, MovesPin, commit_from}
use Rattle.wtf_replay.specs.Replays.{IsStepped, IsTxnOver, IsEnded, IsTrueAttempt, IsTrueStep, IsTrueEnd}
use Rattle.wtf_replay.specs.Effects.{Acts, CallHolds, CallReads, Scope, scope, sight_at, Redoes, StopsAt}
use Rattle.wtf_replay.specs.Installs.{IsInstall}

-- a kind of stores; what is lent, the store of versions and the transaction before a verb, and what it leaves of them
pub record Turn (S : Type 0) : Type 1 where
  pub kind : StoreKind S
  pub before : Dev S
  pub after : Dev S
  pub kv : Store Key Value
  pub left : Store Key Value
  pub old : TxnView
  pub new : TxnView

abbrev pub turn : {S : Type 0} → StoreKind S → Dev S → Dev S → Store Key Value → Store Key Value → TxnView → TxnView → Turn S
turn kind before after kv left old new = record { kind = kind; before = before; after = after; kv = kv; left = left; old = old; new = new }

-- what the stores told before, and what they tell after
abbrev pub told_before : {S : Type 0} → Turn S → Told
told_before t = byte_at t.kind (stores t.before)

abbrev pub told_after : {S : Type 0} → Turn S → Told
told_after t = byte_at t.kind (stores t.after)

-- the number of bytes of a region, and the map that the transaction sees
abbrev pub region_size : {S : Type 0} → Turn S → ℕ
region_size t = t.before.settings.region

abbrev pub map_in : {S : Type 0} → Turn S → Map
map_in t = seen t.kv t.old.at

-- with the lists that are known
abbrev pub scope_of : {S : Type 0} → Turn S → Scope
scope_of t = scope t.kind t.before t.after

-- the calls stand for what the transaction did, over stores that tell each byte of the map at its base; and but where these
-- ranges lie, of which no byte is named, the lists that are remembered are true
abbrev pub StartsSound : {S : Type 0} → Turn S → List (Op (List ℕ)) → Type 0
StartsSound t ops =
    (ranges : List (ℕ × Range)) × TellsMap t.kind t.before ranges (metadata_at t.kv t.old.at.base) × IsAwayTxn t.kind t.before ranges t.kv t.old
    × LogStands (region_size t) t.kv (told_before t) t.old ops

-- A call was made and answered a: it is logged, with the slice that was stored of its data; it recorded its own keys, made its own
-- changes and set what is in hand, by the lists that it asked for, which are known and remembered; and what is named is what was, or that
-- slice.
pub record IsCallMade {S : Type 0} (t : Turn S) (o : Op (List ℕ)) (a : Answer) : Type 0 where
  pub own : Option Slice
  pub called : IsCalled t.old t.new o own a
  pub lists : List ListFact
  pub known : (scope_of t).known lists
  pub recalls : Recalls t.kind t.before t.after lists
  pub reads : CallReads (sight_at (region_size t) t.kv t.old.tx t.old.replayed (hand_of t.old) lists) o a
  pub acts : Acts (sight_at (region_size t) t.kv t.old.tx t.old.replayed (hand_of t.old) lists) (data_len o) own o a t.old.at t.new.at
  pub holds : CallHolds (sight_at (region_size t) t.kv t.old.tx t.old.replayed (hand_of t.old) lists) own o a t.old.session t.new.session
  pub stored : IsOwnOf t.kind t.before t.after (map_in t) t.old.session o own
  pub named : NamesTxn t.kind t.before t.after t.kv t.old t.new own
  pub done : IsSome own → a ≡ answer.Okay

-- a call, with its result
pub record CallOf {S : Type 0} (t : Turn S) (o : Op (List ℕ)) (r : Result Answer Fault) : Type 0 where
  pub instead : IfSome (unmade t.old) (λ a. (r ≡ Ok a) × (t.new ≡ t.old) × (t.after ≡ t.before))
  pub made : unmade t.old ≡ None → IfOk r (λ a. IsCallMade t o a)
  pub meaning : unmade t.old ≡ None → OnOk r ((ops : List (Op (List ℕ))) → StartsSound t ops
      → LogStands (region_size t) t.kv (told_after t) t.new (ops ++ o ∷ []))
  pub fit : IsFit t.kv t.new
  pub inside : IsInsideTxn t.kind (stores t.after) t.before.settings t.kv t.new
  pub err : IfErr r (λ why. why ≢ Memory → t.new ≡ t.old)
  pub err_hand : OnErr r (t.new ≡ record t.old { session = t.new.session })
  pub fault : IfErr r (IsCallFault t.kind t.before t.after (map_in t) t.old.session o)
  pub due : IfErr r (MayFault t.before.settings (map_in t) t.old.session o)
  pub leaves : LeavesStores t.kind (grown_place t.before (map_in t) t.old.session o) (data_len o) (between t.before t.after)
  pub reads : StoresNothing o → OnlyRead t.kind (between t.before t.after)
  pub dev : GoesOn t.kind t.before t.after []

-- the call that was replayed recorded its own keys, made its own changes and set what is in hand; the lists that it asked for are
-- remembered
pub record RedoesNext {S : Type 0} (t : Turn S) : Type 0 where
  pub redoes : Redoes (scope_of t) t.kv t.old t.old.replayed (hand_of t.old) (hand_of t.new)
  pub recalls : Recalls t.kind t.before t.after redoes.makes.lists

-- or it was made once more, and answered otherwise than was shown
abbrev pub ActsAgain : {S : Type 0} → Turn S → Answer → Type 0
ActsAgain t (answer.Replayed i) = RedoesNext t
ActsAgain t (Aborted' i box a) = StopsAt (scope_of t) t.kv t.old i a
ActsAgain t a = ⊥

-- a replay of the next call, with its result; a call that needs no store leaves what is lent
pub record StepOf {S : Type 0} (t : Turn S) (r : Result Answer Fault) : Type 0 where
  pub refused : IfSome (step_refusal t.old) (λ w. (r ≡ Ok (answer.Refused w)) × (t.new ≡ t.old) × (t.after ≡ t.before))
  pub stepped : step_refusal t.old ≡ None → IfOk r (λ a. IsStepped t.old t.new a)
  pub acts : step_refusal t.old ≡ None → IfOk r (λ a. ActsAgain t a)
  pub meaning : step_refusal t.old ≡ None → IfOk r (λ a. (ops : List (Op (List ℕ))) → StartsSound t ops
      → IsTrueStep (region_size t) (told_before t, told_after t) t.kv (t.old, t.new) ops a)
  pub named : OnOk r (NamesTxn t.kind t.before t.after t.kv t.old t.new None)
  pub fit : IsFit t.kv t.new
  pub inside : IsInsideTxn t.kind (stores t.after) t.before.settings t.kv t.new
  pub err : OnErr r (t.new ≡ t.old)
  pub fault : IfErr r (λ why. (why ≡ Memory) ⊎ FaultAt t.kind t.before t.after t.kv (hand_of t.old) (slice_get t.old.log.ops t.old.replayed) why)
  pub due : IfErr r (λ why. (ops : List (Op (List ℕ))) → LogStands (region_size t) t.kv (told_before t) t.old ops
      → MayStepFault t.before.settings (metadata_at t.kv t.old.at.base) (told_before t) t.old ops why)
  pub still : IfSome (slice_get t.old.log.ops t.old.replayed) (λ o. IsStillOp o → t.after ≡ t.before)
  pub reads : OnlyRead t.kind (between t.before t.after)
  pub dev : GoesOn t.kind t.before t.after []

-- the same as `StartsSound`, where it is the map now of which each byte is told
abbrev pub StartsNow : {S : Type 0} → Turn S → List (Op (List ℕ)) → Type 0
StartsNow t ops =
    (ranges : List (ℕ × Range)) × TellsMap t.kind t.before ranges (metadata_at t.kv t.kv.number) × IsAwayTxn t.kind t.before ranges t.kv t.old
    × LogStands (region_size t) t.kv (told_before t) t.old ops

-- an attempt to commit, with its result
pub record AttemptOf {E : Type 0} (kv left : Store Key Value) (old new : TxnView) (r : Result Answer E) : Type 0 where
  pub refused : IfSome (try_refusal old) (λ w. (r ≡ Ok (answer.Refused w)) × (new ≡ old) × (left ≡ kv))
  pub tried : try_refusal old ≡ None → IfOk r (λ a. IsAttempted kv left old new a)
  pub meaning : try_refusal old ≡ None → IfOk r (λ a. (size : ℕ) (told : Told) (ops : List (Op (List ℕ))) → LogStands size kv told old ops
      → IsTrueAttempt size told kv left (old, new) ops a)
  pub maps : KeepsMaps kv left
  pub fit : IsFit left new
  pub err : OnErr r (new ≡ old)
  pub err_store : OnErr r (Stays key_cmp kv left)

-- a transaction begins again at the number, which is pinned in place of its base; want of memory leaves all as it was
pub record RestartOf {A E : Type 0} (kv left : Store Key Value) (old new : TxnView) (r : Result A E) : Type 0 where
  pub is : OnOk r (new ≡ rebased old kv.number)
  pub shows : left ≡ record kv { pins = left.pins }
  pub pins : OnOk r (MovesPin old.at.base kv.number kv left)
  pub err : OnErr r ((new ≡ old) × (left ≡ kv))

-- what a commit is lent, and what has to hold of it
pub record CanCommit {S : Type 0} (kind : StoreKind S) (dev : Dev S) (kv : Store Key Value) (x : TxnView) : Type 0 where
  pub going : x.ended ≡ false
  pub sound : IsSoundDev kind dev
  pub fit : IsFit kv x
  pub inside : IsInsideTxn kind (stores dev) dev.settings kv x
  pub inside_now : IsStoredInside kind (stores dev) dev.settings (metadata_at kv kv.number)
  pub room : kv.number < 2 ^ 63

-- an answer ends a transaction, and a fault leaves it
abbrev pub ended_by : TxnView → Result Answer Fault → TxnView
ended_by x (Ok a) = record x { ended = true }
ended_by x (Err why) = x

-- calls that were left of a transaction were made once more, and what was done was installed, with its result
pub record FinishOf {S : Type 0} (t : Turn S) (r : Result Answer Fault) : Type 0 where
  pub ended : IfOk r (λ a. IsEnded t.kv t.left a)
  pub installs : IfOk r (λ a. IsInstall (scope_of t) t.kv t.left t.old a)
  pub meaning : IfOk r (λ a. (ops : List (Op (List ℕ))) → StartsNow t ops → IsTrueEnd (region_size t) (told_before t, told_after t) t.kv t.left t.old ops a)
  pub named : OnOk r (NamesNow t.kind t.before t.after t.kv t.left t.old)
  pub maps : KeepsMaps t.kv t.left
  pub pins : KeepsPins t.kv t.left
  pub err_store : OnErr r ((t.left.number ≡ t.kv.number) × KeepsVersions t.kv t.left)
  pub fault : IfErr r (λ why. (why ≡ Memory) ⊎ ReplayFault t.kind t.before t.after t.kv t.old why)
  pub due : IfErr r (λ why. (ops : List (Op (List ℕ))) → StartsNow t ops
      → MayCommitFault t.before.settings (metadata_at t.kv t.kv.number) (told_before t) t.old why)
  pub reads : OnlyRead t.kind (between t.before t.after)
  pub dev : GoesOn t.kind t.before t.after []

-- a commit, with its result
pub record CommitOf {S : Type 0} (t : Turn S) (r : Result Answer Fault) : Type 0 where
  pub ended : IfOk r (λ a. IsEnded t.kv t.left a)
  pub over : OnOk r (IsTxnOver t.old t.new)
  pub installs : IfOk r (λ a. IsInstall (scope_of t) t.kv t.left (commit_from t.kv t.old) a)
  pub meaning : IfOk r (λ a. (ops : List (Op (List ℕ))) → StartsNow t ops → IsTrueEnd (region_size t) (told_before t, told_after t) t.kv t.left t.old ops a)
  pub named : OnOk r (NamesNow t.kind t.before t.after t.kv t.left t.old)
  pub maps : KeepsMaps t.kv t.left
  pub pins : KeepsPins t.kv t.left
  pub fit : IsFit t.left t.new
  pub inside : IsInsideTxn t.kind (stores t.after) t.before.settings t.left t.new
  pub inside_now : IsStoredInside t.kind (stores t.after) t.before.settings (metadata_at t.left t.left.number)
  pub err : OnErr r (t.new ≡ t.old)
  pub err_store : OnErr r ((t.left.number ≡ t.kv.number) × KeepsVersions t.kv t.left)
  pub fault : IfErr r (λ why. IsCommitFault t.kind t.before t.after t.kv t.old why)
  pub due : IfErr r (λ why. (ops : List (Op (List ℕ))) → StartsNow t ops
      → MayCommitFault t.before.settings (metadata_at t.kv t.kv.number) (told_before t) t.old why)
  pub reads : OnlyRead t.kind (between t.before t.after)
  pub dev : GoesOn t.kind t.before t.after []
