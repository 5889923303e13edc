-- What calls leave beside what they do: a record for each kind of call.
use Rattle.std.specs.Prelude.{◌≡◌, ◌++◌, [], Result, Ok, Err, IfOk, IfErr, OnOk, OnErr}
use Rattle.wtf_base.specs.declared.fault.Fault.{Fault}
use Rattle.wtf_base.specs.declared.fault.Fault.TheVariants as fault
use Rattle.wtf_base.specs.declared.ids.InodeId.{InodeId}
use Rattle.wtf_base.specs.declared.memory.OutOfMemory.{OutOfMemory}
use Rattle.wtf_dev.specs.Store.{StoreKind}
use Rattle.wtf_occ.specs.Attempts.{Attempted, Grows}
use Rattle.wtf_model.specs.Steps.{IsLogged}
use Rattle.wtf_model.specs.declared.answer.Answer.{Answer}
use Rattle.wtf_values.specs.declared.key.Key.{Key}
use Rattle.wtf_values.specs.declared.value.Delta.{Delta}
use Rattle.wtf_meta.specs.Calls.{InHand}
use Rattle.wtf_meta.specs.Sessions.{SessionView}
use Rattle.wtf_region.specs.declared.dev.Dev.{Dev}
use Rattle.wtf_region.specs.Devs.{GoesOn, remembered, between}
use Rattle.wtf_region.specs.Showing.{OnlyRead}
use Rattle.wtf_steps.specs.Scenes.{Scene}
use Rattle.wtf_steps.specs.Steps.{IsRefusal}
use Rattle.wtf_slicing.specs.declared.op.SliceOp.{SliceOp}
use Rattle.wtf_slicing.specs.Held.{SliceDone}
use Rattle.wtf_slicing.specs.Ops.{IsSliceStep, IsSliceFault, MaySliceFault, NeedsNoStore, slice_keys}

-- a call that lays pieces over files and stores no byte
pub record LaysSlice (old new : InHand) (r : Result Answer OutOfMemory) : Type 0 where
  pub logged : IfOk r (λ a. IsLogged a)
  pub refused : IfOk r (λ a. IsRefusal a → new.at.changes ≡ old.at.changes)
  pub err : OnErr r (new.session ≡ old.session)
  pub grows : Grows old.at new.at

-- one that shows a part of a slice
pub record ShowsPart {S : Type 0} (kind : StoreKind S) (before after : Dev S) (old new : SessionView) (r : Result Answer Fault) : Type 0 where
  pub same : new ≡ old
  pub logged : IfOk r (λ a. IsLogged a)
  pub refused : IfOk r (λ a. IsRefusal a → after ≡ before)
  pub lists : remembered after ≡ remembered before
  pub reads : OnlyRead kind (between before after)
  pub dev : GoesOn kind before after []

-- one that takes bytes of files: it reads alone, a refusal leaves stores and attempt, and no answer is a fault
pub record SliceLeft {S : Type 0} (kind : StoreKind S) (before after : Dev S) (old new : Attempted Key Delta) (r : Result Answer Fault) : Type 0 where
  pub logged : IfOk r (λ a. IsLogged a)
  pub refused : IfOk r (λ a. IsRefusal a → (after ≡ before) × (new.changes ≡ old.changes))
  pub grows : Grows old new
  pub reads : OnlyRead kind (between before after)
  pub dev : GoesOn kind before after []

-- and for a slice
pub record TakesSlice {S : Type 0} (kind : StoreKind S) (before after : Dev S) (old new : InHand) (r : Result Answer Fault) : Type 0 where
  pub logged : IfOk r (λ a. IsLogged a)
  pub refused : IfOk r (λ a. IsRefusal a → (after ≡ before) × (new.at.changes ≡ old.at.changes))
  pub err : OnErr r (new.session ≡ old.session)
  pub grows : Grows old.at new.at
  pub reads : OnlyRead kind (between before after)
  pub dev : GoesOn kind before after []

-- the outcome of a call that is lent no store: its answer, or want of memory
abbrev pub plain_of : Result Answer OutOfMemory → Result Answer Fault
plain_of (Ok a) = Ok a
plain_of (Err e) = Err fault.Memory

-- any of them, with `made` as the inode of a file that it would make: what it records, does, makes and leaves in hand, that it reads
-- alone, and why it gives a fault
pub record SlicingOf {S : Type 0} (sc : Scene S) (made : InodeId) (old new : InHand) (o : SliceOp) (r : Result Answer Fault) : Type 0 where
  pub keys : OnOk r (new.at.reads ≡ old.at.reads ++ slice_keys sc.before.settings.region sc.map old.session o)
  pub step : IfOk r (λ a. IsSliceStep sc sc.before.settings.region made old new o a)
  pub done : IfOk r (λ a. SliceDone sc made o a old new)
  pub logged : IfOk r (λ a. IsLogged a)
  pub refused : IfOk r (λ a. IsRefusal a → (sc.after ≡ sc.before) × (new.at.changes ≡ old.at.changes) × (new.session ≡ old.session))
  pub fault : IfErr r (IsSliceFault sc.kind sc.before sc.after sc.map old.session o)
  pub due : IfErr r (MaySliceFault sc.before.settings sc.map old.session o)
  pub err : OnErr r (new.session ≡ old.session)
  pub grows : Grows old.at new.at
  pub still : NeedsNoStore o → sc.after ≡ sc.before
  pub reads : OnlyRead sc.kind (between sc.before sc.after)
  pub dev : GoesOn sc.kind sc.before sc.after []
