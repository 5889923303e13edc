-- What calls are lent and leave beside what they do: a record for each kind of call.
use Rattle.std.specs.Prelude.{◌≡◌, ◌++◌, ◌⊎◌, ℕ, List, [], length, Option, None, Result, Ok, Err, IsSome, IfOk, IfErr, OnOk, OnErr}
use Rattle.wtf_base.specs.declared.fault.Fault.{Fault}
use Rattle.wtf_base.specs.declared.fault.Fault.TheVariants as fault
use Rattle.wtf_base.specs.declared.memory.OutOfMemory.{OutOfMemory}
use Rattle.wtf_dev.specs.Store.{StoreKind}
use Rattle.wtf_occ.specs.Attempts.{Grows}
use Rattle.wtf_model.specs.Steps.{IsLogged}
use Rattle.wtf_model.specs.declared.answer.Answer.{Answer}
use Rattle.wtf_model.specs.declared.answer.Answer.TheVariants as answer
use Rattle.wtf_values.specs.declared.key.Key.{Key}
use Rattle.wtf_meta.specs.declared.session.Handle.{Handle}
use Rattle.wtf_meta.specs.Calls.{InHand}
use Rattle.wtf_region.specs.declared.dev.Dev.{Dev}
use Rattle.wtf_region.specs.Devs.{GoesOn, remembered, between}
use Rattle.wtf_region.specs.Showing.{OnlyRead}
use Rattle.wtf_steps.specs.Steps.{IsRefusal}
use Rattle.wtf_steps.specs.Holding.{LeavesHand}
use Rattle.wtf_steps.specs.Leaving.{LeavesStores}
use Rattle.wtf_steps.specs.Made.{Makes}
use Rattle.wtf_steps.specs.Recalling.{RecallsFor}
use Rattle.wtf_steps.specs.Scenes.{Scene}
use Rattle.wtf_rw.specs.declared.op.Done.{Done}
use Rattle.wtf_rw.specs.declared.op.RwOp.{RwOp}
use Rattle.wtf_rw.specs.Changed.{RwMade}
use Rattle.wtf_rw.specs.Held.{RwHolds}
use Rattle.wtf_rw.specs.Ops.{IsRwStep, IsRwOwn, LacksOwn, StoresNone, IsRwFault, MayRwFault, IsBare, IsBareAnswer, NeedsNoStore, rw_keys, rw_place, rw_len}
use Rattle.wtf_rw.specs.Reads.{RwReads, ReadsNoList}
use Rattle.wtf_rw.specs.Stored.{IsPutFault}

-- a call that looks at metadata alone, and may set a handle: the keys that it records
pub record Looks (keys : List Key) (old new : InHand) (r : Result Answer OutOfMemory) : Type 0 where
  pub records : OnOk r (new.at.reads ≡ old.at.reads ++ keys)
  pub same : OnOk r (new.at.changes ≡ old.at.changes)
  pub logged : IfOk r (λ a. IsLogged a)
  pub refused : IfOk r (λ a. IsRefusal a → new.session ≡ old.session)
  pub err : OnErr r (new.session ≡ old.session)
  pub grows : Grows old.at new.at

-- one that changes metadata, and may move a handle
pub record Alters (old new : InHand) (r : Result Answer OutOfMemory) : Type 0 where
  pub logged : IfOk r (λ a. IsLogged a)
  pub refused : IfOk r (λ a. IsRefusal a → (new.at.changes ≡ old.at.changes) × (new.session ≡ old.session))
  pub err : OnErr r (new.session ≡ old.session)
  pub grows : Grows old.at new.at

-- what is lent, and what is left of it
pub record Lent (S : Type 0) : Type 1 where
  pub kind : StoreKind S
  pub before : Dev S
  pub after : Dev S

-- one that is to store bytes for a handle
pub record PutsBytes {S : Type 0} (lent : Lent S) (old new : InHand) (h : Option Handle) (bytes : List ℕ) (r : Result Done Fault) : Type 0 where
  pub closed : IfOk r (λ d. h ≡ None → (lent.after ≡ lent.before) × (d.own ≡ None))
  pub lacks : IfOk r (λ d. d.own ≡ None → (length bytes ≡ 0) ⊎ IsRefusal d.answer)
  pub done : IfOk r (λ d. IsSome d.own → d.answer ≡ answer.Okay)
  pub logged : IfOk r (λ d. IsLogged d.answer)
  pub refused : IfOk r (λ d. IsRefusal d.answer → (lent.after ≡ lent.before) × (d.own ≡ None) × (new.at.changes ≡ old.at.changes) × (new.session ≡ old.session))
  pub fault : IfErr r (IsPutFault lent.kind lent.before lent.after bytes)
  pub lists : remembered lent.after ≡ remembered lent.before
  pub err : OnErr r (new.session ≡ old.session)
  pub grows : Grows old.at new.at
  pub dev : GoesOn lent.kind lent.before lent.after []

-- one that shows bytes
pub record ReadsBytes {S : Type 0} (lent : Lent S) (keys : List Key) (old new : InHand) (r : Result Done Fault) : Type 0 where
  pub records : OnOk r (new.at.reads ≡ old.at.reads ++ keys)
  pub same : OnOk r (new.at.changes ≡ old.at.changes)
  pub none : IfOk r (λ d. d.own ≡ None)
  pub logged : IfOk r (λ d. IsLogged d.answer)
  pub refused : IfOk r (λ d. IsRefusal d.answer → (lent.after ≡ lent.before) × (new.session ≡ old.session))
  pub err : OnErr r (new.session ≡ old.session)
  pub grows : Grows old.at new.at
  pub reads : OnlyRead lent.kind (between lent.before lent.after)

-- the outcome of a call that is lent no store: its answer, or want of memory
abbrev pub plain_of : Result Answer OutOfMemory → Result Done Fault
plain_of (Ok a) = Ok (record { answer = a; own = None })
plain_of (Err e) = Err fault.Memory

-- any of them: what it records, does, makes, leaves in hand, stores and answers, and why it gives a fault
pub record RwOf {S : Type 0} (sc : Scene S) (old new : InHand) (o : RwOp) (r : Result Done Fault) : Type 0 where
  pub keys : OnOk r (new.at.reads ≡ old.at.reads ++ rw_keys sc.before.settings.region sc.map old.session o)
  pub step : IfOk r (λ d. IsRwStep sc sc.before.settings.region old new o d.own d.answer)
  pub made : IfOk r (λ d. Makes d.answer (RwMade sc.before.settings.region sc.map old.session o d.own) old.at new.at)
  pub holds : IfOk r (λ d. LeavesHand d.answer (RwHolds sc.before.settings.region sc.map o) old.session new.session)
  pub recalls : IfOk r (λ d. RecallsFor sc.kind d.answer (RwReads sc.before.settings.region sc.map old.session o) sc.before sc.after)
  pub own : IfOk r (λ d. IsRwOwn sc.kind sc.before sc.after sc.map old.session o d.own)
  pub lacks : IfOk r (λ d. LacksOwn o d.own d.answer)
  pub done : IfOk r (λ d. IsSome d.own → d.answer ≡ answer.Okay)
  pub logged : IfOk r (λ d. IsLogged d.answer)
  pub refused : IfOk r (λ d. IsRefusal d.answer → (sc.after ≡ sc.before) × (d.own ≡ None) × (new.at.changes ≡ old.at.changes) × (new.session ≡ old.session))
  pub answers : IfOk r (λ d. IsBareAnswer sc.before.settings.region sc.map old.session o d.answer)
  pub bare : OnOk r (IsBare o → (new.at.changes ≡ old.at.changes) × (new.session ≡ old.session))
  pub fault : IfErr r (IsRwFault sc.kind sc.before sc.after sc.map old.session o)
  pub due : IfErr r (MayRwFault sc.before.settings sc.map old.session o)
  pub err : OnErr r (new.session ≡ old.session)
  pub grows : Grows old.at new.at
  pub leaves : LeavesStores sc.kind (rw_place sc.before sc.map old.session o) (rw_len o) (between sc.before sc.after)
  pub still : NeedsNoStore o → sc.after ≡ sc.before
  pub reads : StoresNone o → OnlyRead sc.kind (between sc.before sc.after)
  pub lists : ReadsNoList o → remembered sc.after ≡ remembered sc.before
  pub dev : GoesOn sc.kind sc.before sc.after []
