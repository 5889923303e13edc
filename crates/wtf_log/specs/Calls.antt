-- What a log holds, and which slice each of its calls has stored.
use Rattle.std.specs.Prelude.{◌++◌, ◌∷◌, [], List, Option, None}
use Rattle.wtf_base.specs.declared.kept.Kept.{Kept}
use Rattle.wtf_base.specs.declared.slice.Slice.{Slice}
use Rattle.wtf_model.specs.declared.answer.Answer.{Answer}
use Rattle.wtf_model.specs.declared.op.Op.{Op}
use Rattle.wtf_model.specs.declared.op.Op.TheVariants as op

-- the calls of a transaction, and what was shown of each, both in order
pub record Calls : Type 0 where
  pub ops : List (Op Kept)
  pub shown : List Answer

-- no call yet
abbrev pub no_calls : Calls
no_calls = record { ops = []; shown = [] }

-- one more call at the end, and what was shown of it
abbrev pub with_call : Calls → Op Kept → Answer → Calls
with_call log o a = record { ops = log.ops ++ o ∷ []; shown = log.shown ++ a ∷ [] }

-- the slice that a call has stored: that of a write or an append which keeps one
abbrev pub own_of : Op Kept → Option Slice
own_of (op.Write h kept) = kept.slice
own_of (op.Append h kept) = kept.slice
own_of o = None
