-- What a log keeps of the data of its calls.
use Rattle.std.specs.Prelude.{◌≡◌, ◌⊎◌, ℕ, List, length, Option, Some, None, IfSome, ⊤}
use Rattle.wtf_base.specs.declared.kept.Kept.{Kept}
use Rattle.wtf_base.specs.declared.slice.Slice.{Slice}
use Rattle.wtf_model.specs.declared.answer.Answer.{Answer}
use Rattle.wtf_model.specs.declared.op.Op.{Op}
use Rattle.wtf_model.specs.declared.op.Op.TheVariants as op
use Rattle.wtf_log.specs.Calls.{own_of}
use Rattle.wtf_log.specs.Standing.{OpStandsFor}
use Rattle.wtf_steps.specs.Steps.{IsRefusal}
use Rattle.wtf_replay.specs.Built.{call_data}

-- what is kept of a call's data names each of its bytes
abbrev pub IsWholeOp : Op Kept → Type 0
IsWholeOp (op.Write f kept) = kept.slice ≡ None → kept.len ≡ 0
IsWholeOp (op.Append f kept) = kept.slice ≡ None → kept.len ≡ 0
IsWholeOp o = ⊤

-- or the call was refused
abbrev pub IsKeptFor : Op Kept → Answer → Type 0
IsKeptFor o a = IsWholeOp o ⊎ IsRefusal a

-- of no data a slice was stored, or its call was refused
abbrev pub LacksData : Op (List ℕ) → Option Slice → Answer → Type 0
LacksData o own a = own ≡ None → (length (call_data o) ≡ 0) ⊎ IsRefusal a

-- of data that is kept, the slice that was stored
abbrev pub KeepsOwn : Op Kept → Option Slice → Type 0
KeepsOwn (op.Write f kept) own = kept.slice ≡ own
KeepsOwn (op.Append f kept) own = kept.slice ≡ own
KeepsOwn k own = ⊤

-- a call as a log keeps it, with the slice that was stored of its data
pub record IsKeptOf (o : Op (List ℕ)) (own : Option Slice) (k : Op Kept) : Type 0 where
  pub stands : OpStandsFor (λ s bytes. (own ≡ Some s) × (bytes ≡ call_data o)) k o
  pub own_is : IfSome (own_of k) (λ s. own ≡ Some s)
  pub keeps : KeepsOwn k own
  pub lacks : (a : Answer) → LacksData o own a → IsKeptFor k a
