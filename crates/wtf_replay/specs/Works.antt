-- What one call of a transaction is lent and leaves, and what it does with that.
use Rattle.std.specs.Prelude.{◌≡◌, ◌⊎◌, ◌↔◌, ℕ, ◌+◌, Bool, List, [], Option, None, Some, Result, IsTrue, IsSome, IfOk, IfErr, IfSome, OnOk, OnErr}
use Rattle.std.specs.Prelude.{length, slice_get, ⊤}
use Rattle.wtf_base.specs.declared.fault.Fault.{Fault}
use Rattle.wtf_base.specs.declared.ids.InodeId.{InodeId}
use Rattle.wtf_base.specs.declared.kept.Kept.{Kept}
use Rattle.wtf_base.specs.declared.slice.Slice.{Slice}
use Rattle.wtf_dev.specs.Store.{Range, StoreKind}
use Rattle.wtf_kv.specs.Stores.{Store}
use Rattle.wtf_occ.specs.Attempts.{Grows}
use Rattle.wtf_overlay.specs.Origin.{Place}
use Rattle.wtf_model.specs.declared.answer.Answer.{Answer}
use Rattle.wtf_model.specs.declared.answer.Answer.TheVariants as answer
use Rattle.wtf_model.specs.declared.op.Op.{Op}
use Rattle.wtf_model.specs.Steps.{IsLogged}
use Rattle.wtf_values.specs.declared.key.Key.{Key}
use Rattle.wtf_values.specs.declared.value.Value.{Value}
use Rattle.wtf_log.specs.Calls.{Calls, own_of}
use Rattle.wtf_log.specs.Standing.{OpStandsFor}
use Rattle.wtf_meta.specs.Bytes.{MapBytes, PiecesBytes}
use Rattle.wtf_meta.specs.Contents.{Told, lists_in}
use Rattle.wtf_meta.specs.Lists.{ListFact, TellLists}
use Rattle.wtf_meta.specs.Maps.{Map, AllFit, metadata_at, seen}
use Rattle.wtf_meta.specs.Calls.{Caller, InHand, TellFacts, IsStep}
use Rattle.wtf_region.specs.declared.dev.Dev.{Dev}
use Rattle.wtf_region.specs.Devs.{GoesOn, RemembersTrue, told_in, between}
use Rattle.wtf_region.specs.Reads.{Recalls, TellsFacts, AreInsideLists}
use Rattle.wtf_region.specs.Showing.{OnlyRead}
use Rattle.wtf_steps.specs.Faults.{MayFault}
use Rattle.wtf_steps.specs.Leaving.{LeavesStores}
use Rattle.wtf_steps.specs.Scenes.{Scene}
use Rattle.wtf_rw.specs.declared.op.Done.{Done}
use Rattle.wtf_rw.specs.Stored.{SliceBytes, TellSlice}
use Rattle.wtf_slicing.specs.Sights.{Sight, sight}
use Rattle.wtf_slicing.specs.Steps.{IsNewFor}
use Rattle.wtf_replay.specs.Views.{TxnView, replaying}
use Rattle.wtf_replay.specs.Built.{IsPlainOp, call_data, data_len}
use Rattle.wtf_replay.specs.Keeps.{IsWholeOp, IsKeptFor, LacksData}
use Rattle.wtf_replay.specs.Sounds.{LogStands, IsDue, TellsMap, TellsHand, IsAwayTxn, tells_slice}
use Rattle.wtf_replay.specs.Insides.{IsKnown, NamesAgain}
use Rattle.wtf_replay.specs.Causes.{IsOwnOf, StoresNothing, grown_place, IsStillOp, IsCallFault, IsAgainFault, MayAgainFault, FaultAt, ReplayFault}
use Rattle.wtf_replay.specs.Replays.{IsReplay}
use Rattle.wtf_replay.specs.Effects.{Acts, CallHolds, CallReads, kept_len, scope, AllRedone, StopsAt}

-- a kind of stores; what is lent before a call and what it leaves; the store of versions; and the attempt with what is in hand,
-- before and after
pub record Work (S : Type 0) : Type 1 where
  pub kind : StoreKind S
  pub before : Dev S
  pub after : Dev S
  pub kv : Store Key Value
  pub old : InHand
  pub new : InHand

abbrev pub work : {S : Type 0} → StoreKind S → Dev S → Dev S → Store Key Value → InHand → InHand → Work S
work kind before after kv old new = record { kind = kind; before = before; after = after; kv = kv; old = old; new = new }

-- the map that the attempt saw, and the number of bytes of a region
abbrev pub saw : {S : Type 0} → Work S → Map
saw w = seen w.kv w.old.at

abbrev pub work_region_size : {S : Type 0} → Work S → ℕ
work_region_size w = w.before.settings.region

abbrev pub scene_of : {S : Type 0} → Work S → Scene S
scene_of w = record { kind = w.kind; before = w.before; after = w.after; map = saw w }

-- what the stores told, and what they tell
abbrev pub told_then : {S : Type 0} → Work S → Told
told_then w = told_in w.kind w.before

abbrev pub told_now : {S : Type 0} → Work S → Told
told_now w = told_in w.kind w.after

-- what the call saw, with the lists that it read
abbrev pub sight_of : {S : Type 0} → Work S → InodeId → List ListFact → Sight
sight_of w made lists = sight (work_region_size w) (saw w) w.old.session made lists

-- who calls, where this is the inode of the next call
pub record IsCaller (size : ℕ) (made : InodeId) (x : Caller) : Type 0 where
  pub size_is : x.size ≡ size
  pub next : IsNewFor x made

-- A call of x was made, with this slice of its data: it is a step, what it stored is of the slice, and over stores that tell what
-- was named they tell what it read.
pub record IsWork {S : Type 0} (w : Work S) (x : Caller) (own : Option Slice) (o : Op (List ℕ)) (a : Answer) : Type 0 where
  pub step : IsStep x (saw w) w.old w.new o a
  pub kept : (P : List Place → Bool) → SliceBytes P own → PiecesBytes P step.did.stored
  pub inside : AreInsideLists w.kind w.after step.did.lists
  pub lists : (ranges : List (ℕ × Range)) → RemembersTrue w.kind w.before ranges
      → IsKnown w.kind w.before ranges (λ P Q. MapBytes P Q (saw w)) → TellLists (lists_in (w.after.settings.region) (told_now w)) step.did.lists
  pub facts : (ranges : List (ℕ × Range)) → TellsHand w.kind w.before ranges (saw w) w.old.session → TellSlice (told_now w) own (call_data o)
      → TellFacts (told_now w) step.did.facts

-- and it recorded its keys, made its changes and set what is in hand, by lists that it asked for, which are known and remembered
pub record Acted {S D : Type 0} (w : Work S) (made : InodeId) (n : ℕ) (own : Option Slice) (o : Op D) (a : Answer) : Type 0 where
  pub lists : List ListFact
  pub known : TellsFacts w.kind w.before w.after lists
  pub recalls : Recalls w.kind w.before w.after lists
  pub reads : CallReads (sight_of w made lists) o a
  pub acts : Acts (sight_of w made lists) n own o a w.old.at w.new.at
  pub holds : CallHolds (sight_of w made lists) own o a w.old.session w.new.session

-- the attempt and what is in hand are as they were
abbrev pub IsWorkLeft : {S : Type 0} → Work S → Type 0
IsWorkLeft w = (w.new.at ≡ w.old.at) × (w.new.session ≡ w.old.session)

-- or only keys were recorded
abbrev pub OnlyLooked : {S : Type 0} → Work S → Type 0
OnlyLooked w = (w.new.at.changes ≡ w.old.at.changes) × (w.new.session ≡ w.old.session)

-- a call without data, with its result
pub record PlainOf {S D : Type 0} (w : Work S) (made : InodeId) (o : Op D) (r : Result Answer Fault) : Type 0 where
  pub does : IfOk r (λ a. (x : Caller) (own : Option Slice) (p : Op (List ℕ)) → IsPlainOp o p → IsCaller (work_region_size w) made x → IsWork w x own p a)
  pub acted : IfOk r (λ a. (n : ℕ) (own : Option Slice) → Acted w made n own o a)
  pub logged : IfOk r (λ a. IsLogged a)
  pub err : OnErr r (IsWorkLeft w)
  pub fault : IfErr r (IsAgainFault w.kind w.before w.after (saw w) w.old.session o)
  pub due : IfErr r (λ why. (p : Op (List ℕ)) → IsPlainOp o p → MayFault w.before.settings (saw w) w.old.session p why)
  pub grows : Grows w.old.at w.new.at
  pub still : IsStillOp o → w.after ≡ w.before
  pub reads : OnlyRead w.kind (between w.before w.after)
  pub dev : GoesOn w.kind w.before w.after []

-- a call that was made for the first time
pub record IsFirstCall {S : Type 0} (w : Work S) (made : InodeId) (o : Op (List ℕ)) (d : Done) : Type 0 where
  pub does : (x : Caller) → IsCaller (work_region_size w) made x → IsWork w x d.own o d.answer
  pub acted : Acted w made (data_len o) d.own o d.answer
  pub own : IsOwnOf w.kind w.before w.after (saw w) w.old.session o d.own
  pub lacks : LacksData o d.own d.answer
  pub done : IsSome d.own → d.answer ≡ answer.Okay
  pub logged : IsLogged d.answer

-- with its result
pub record FreshOf {S : Type 0} (w : Work S) (made : InodeId) (o : Op (List ℕ)) (r : Result Done Fault) : Type 0 where
  pub first : IfOk r (λ d. IsFirstCall w made o d)
  pub err : OnErr r (IsWorkLeft w)
  pub fault : IfErr r (IsCallFault w.kind w.before w.after (saw w) w.old.session o)
  pub due : IfErr r (MayFault w.before.settings (saw w) w.old.session o)
  pub grows : Grows w.old.at w.new.at
  pub leaves : LeavesStores w.kind (grown_place w.before (saw w) w.old.session o) (data_len o) (between w.before w.after)
  pub reads : StoresNothing o → OnlyRead w.kind (between w.before w.after)
  pub dev : GoesOn w.kind w.before w.after []

-- A logged call was made once more: where the log kept all of its bytes, or it was refused, it is the call for which it stands. Of
-- one whose bytes were not kept the answer is due, and only keys were recorded.
pub record IsAgain {S : Type 0} (w : Work S) (made : InodeId) (k : Op Kept) (a : Answer) : Type 0 where
  pub does : IsKeptFor k a → (x : Caller) (o : Op (List ℕ)) → IsCaller (work_region_size w) made x → OpStandsFor (λ s bytes. ⊤) k o → IsWork w x (own_of k) o a
  pub whole : IsWholeOp k ⊎ OnlyLooked w
  pub due : (x : Caller) (o : Op (List ℕ)) → IsCaller (work_region_size w) made x → (ranges : List (ℕ × Range))
      → TellsHand w.kind w.before ranges (saw w) w.old.session
      → OpStandsFor (tells_slice (told_then w)) k o → IsDue (told_now w) x (saw w) w.old.session o a
  pub acted : Acted w made (kept_len k) (own_of k) k a
  pub logged : IsLogged a

-- with its result
pub record AgainOf {S : Type 0} (w : Work S) (made : InodeId) (k : Op Kept) (r : Result Answer Fault) : Type 0 where
  pub again : IfOk r (λ a. IsAgain w made k a)
  pub err : OnErr r (IsWorkLeft w)
  pub fault : IfErr r (IsAgainFault w.kind w.before w.after (saw w) w.old.session k)
  pub may : IfErr r (MayAgainFault w.before.settings (saw w) w.old.session k)
  pub grows : Grows w.old.at w.new.at
  pub still : IsStillOp k → w.after ≡ w.before
  pub reads : OnlyRead w.kind (between w.before w.after)
  pub dev : GoesOn w.kind w.before w.after []

-- the inode of call k + 1 of a transaction
abbrev pub inode_at : ℕ → ℕ → InodeId
inode_at tx k = record { tx = record { 0 = tx }; index = k + 1 }

-- call k of a log, from 0 on, was made once more
pub record IsNext {S : Type 0} (w : Work S) (tx : ℕ) (log : Calls) (k : ℕ) (a : Answer) : Type 0 where
  pub op : Op Kept
  pub at_op : slice_get log.ops k ≡ Some op
  pub again : IsAgain w (inode_at tx k) op a

-- with its result: its answer, and whether that is what was shown; a call that needs no store leaves what is lent
pub record NextOf {S : Type 0} (w : Work S) (tx : ℕ) (log : Calls) (k : ℕ) (r : Result (Answer × Bool) Fault) : Type 0 where
  pub next : IfOk r (λ q. IsNext w tx log k q.0)
  pub same : IfOk r (λ q. IsTrue q.1 ↔ (slice_get log.shown k ≡ Some q.0))
  pub err : OnErr r (IsWorkLeft w)
  pub fault : IfErr r (FaultAt w.kind w.before w.after w.kv w.old (slice_get log.ops k))
  pub grows : Grows w.old.at w.new.at
  pub still : IfSome (slice_get log.ops k) (λ o. IsStillOp o → w.after ≡ w.before)
  pub reads : OnlyRead w.kind (between w.before w.after)
  pub dev : GoesOn w.kind w.before w.after []

-- the calls that were left of a transaction, which began with what is in hand before, with their result
pub record ReplayOf {S : Type 0} (w : Work S) (x : TxnView) (r : Result (Option (ℕ × Answer)) Fault) : Type 0 where
  pub replay : IfOk r (λ q. (ops : List (Op (List ℕ))) (ranges : List (ℕ × Range)) → TellsMap w.kind w.before ranges (metadata_at w.kv x.at.base)
      → IsAwayTxn w.kind w.before ranges w.kv x → LogStands (work_region_size w) w.kv (told_then w) x ops
      → IsReplay (work_region_size w) w.kv (told_then w, told_now w) (replaying x.tx w.new.at w.new.session x.log (length x.log.ops)) ops q)
  pub redone : IfOk r (λ q. q ≡ None
      → (lists : List ListFact) × AllRedone (scope w.kind w.before w.after) w.kv x lists w.new × Recalls w.kind w.before w.after lists)
  pub stops : IfOk r (λ q. IfSome q (λ p. StopsAt (scope w.kind w.before w.after) w.kv x p.0 p.1))
  pub named : OnOk r (NamesAgain w.kind w.before w.after w.kv w.old w.new x.log)
  pub fault : IfErr r (ReplayFault w.kind w.before w.after w.kv x)
  pub fit : AllFit w.new.at.changes (metadata_at w.kv w.new.at.base)
  pub grows : Grows w.old.at w.new.at
  pub reads : OnlyRead w.kind (between w.before w.after)
  pub dev : GoesOn w.kind w.before w.after []
