-- When a logged call, which keeps slices in place of bytes, stands for a call that was given bytes.
use Rattle.std.specs.Prelude.{◌≡◌, ℕ, List, [], ◌∷◌, length, IfSome}
use Rattle.wtf_base.specs.declared.kept.Kept.{Kept}
use Rattle.wtf_base.specs.declared.slice.Slice.{Slice}
use Rattle.wtf_model.specs.declared.op.Op.{Op}
use Rattle.wtf_model.specs.declared.op.Op.TheVariants as op

-- what is kept stands for bytes: it counts them, and where a slice is kept, the slice holds them
pub record KeptStandsFor (holds : Slice → List ℕ → Type 0) (kept : Kept) (bytes : List ℕ) : Type 0 where
  pub len : kept.len ≡ length bytes
  pub slice : IfSome kept.slice (λ s. holds s bytes)

-- a call was given bytes for which what is kept stands
pub record IsGiven (holds : Slice → List ℕ → Type 0) (kept : Kept) (call : List ℕ → Op (List ℕ)) (o : Op (List ℕ)) : Type 0 where
  pub bytes : List ℕ
  pub is : o ≡ call bytes
  pub stands : KeptStandsFor holds kept bytes

-- a logged call stands for a call: the same verb and arguments, and what is kept stands for the bytes
abbrev pub OpStandsFor : (Slice → List ℕ → Type 0) → Op Kept → Op (List ℕ) → Type 0
OpStandsFor holds (op.Write h kept) o = IsGiven holds kept (op.Write h) o
OpStandsFor holds (op.Append h kept) o = IsGiven holds kept (op.Append h) o
OpStandsFor holds (op.Mkdir p) o = o ≡ op.Mkdir p
OpStandsFor holds (op.Rmdir p) o = o ≡ op.Rmdir p
OpStandsFor holds (op.Create p) o = o ≡ op.Create p
OpStandsFor holds (op.Unlink p) o = o ≡ op.Unlink p
OpStandsFor holds (op.Rename p q) o = o ≡ op.Rename p q
OpStandsFor holds (op.Link p q) o = o ≡ op.Link p q
OpStandsFor holds (op.List p) o = o ≡ op.List p
OpStandsFor holds (op.Stat p) o = o ≡ op.Stat p
OpStandsFor holds (op.Open h p) o = o ≡ op.Open h p
OpStandsFor holds (op.Close h) o = o ≡ op.Close h
OpStandsFor holds (op.Seek h to) o = o ≡ op.Seek h to
OpStandsFor holds (op.Tell h) o = o ≡ op.Tell h
OpStandsFor holds (op.Read h n) o = o ≡ op.Read h n
OpStandsFor holds (op.Truncate h n) o = o ≡ op.Truncate h n
OpStandsFor holds (op.Punch h n) o = o ≡ op.Punch h n
OpStandsFor holds (op.Yank h n label) o = o ≡ op.Yank h n label
OpStandsFor holds (op.Peek from off len) o = o ≡ op.Peek from off len
OpStandsFor holds (op.Cut from off len to) o = o ≡ op.Cut from off len to
OpStandsFor holds (op.Paste h label) o = o ≡ op.Paste h label
OpStandsFor holds (op.Glue to from) o = o ≡ op.Glue to from
OpStandsFor holds (op.Concat p sources) o = o ≡ op.Concat p sources
OpStandsFor holds (op.Copy p q) o = o ≡ op.Copy p q

-- logged calls stand for calls, one for one
abbrev pub OpsStandFor : (Slice → List ℕ → Type 0) → List (Op Kept) → List (Op (List ℕ)) → Type 0
OpsStandFor holds [] [] = Unit {0}
OpsStandFor holds (o ∷ logged) (p ∷ ops) = OpStandsFor holds o p × OpsStandFor holds logged ops
OpsStandFor holds [] (p ∷ ops) = ⊥
OpsStandFor holds (o ∷ logged) [] = ⊥
