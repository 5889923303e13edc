-- What holds of a transaction over every device.
use Rattle.std.specs.Prelude.{◌≡◌, ◌≤◌, ℕ, IsTrue, All, Some, length, slice_get}
use Rattle.wtf_base.specs.declared.kept.Kept.{Kept}
use Rattle.wtf_kv.specs.Stores.{Store, is_pinned}
use Rattle.wtf_values.specs.declared.key.Key.{Key}
use Rattle.wtf_values.specs.declared.value.Value.{Value}
use Rattle.wtf_model.specs.declared.answer.Answer.{Answer}
use Rattle.wtf_model.specs.declared.op.Op.{Op}
use Rattle.wtf_model.specs.declared.limits.TheConstants.{MAX_LOGGED}
use Rattle.wtf_model.specs.Form.{IsFormOp, IsKeptData}
use Rattle.wtf_model.specs.Steps.{IsLogged}
use Rattle.wtf_log.specs.Calls.{Calls}
use Rattle.wtf_meta.specs.Maps.{AllFit, metadata_at}
use Rattle.wtf_replay.specs.Views.{TxnView}
use Rattle.wtf_replay.specs.Keeps.{IsKeptFor}

-- A log of a transaction: as many answers as calls, and not too many; each call is in form, and each answer is one of
-- a call. What is kept of a call's data names its bytes, or the call was refused.
pub record IsLog (log : Calls) : Type 0 where
  pub answers : length log.shown ≡ length log.ops
  pub few : length log.ops ≤ MAX_LOGGED
  pub form : All (IsFormOp IsKeptData) log.ops
  pub shown : All IsLogged log.shown
  pub kept : (k : ℕ) (o : Op Kept) (a : Answer) → slice_get log.ops k ≡ Some o → slice_get log.shown k ≡ Some a → IsKeptFor o a

-- the base is pinned, and the changes fit there; no more calls are done than there are
pub record IsFit (kv : Store Key Value) (x : TxnView) : Type 0 where
  pub pinned : IsTrue (is_pinned kv x.at.base)
  pub fits : AllFit x.at.changes (metadata_at kv x.at.base)
  pub log : IsLog x.log
  pub most : x.replayed ≤ length x.log.ops
