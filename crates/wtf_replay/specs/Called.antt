-- What a call makes of a transaction.
use Rattle.std.specs.Prelude.{◌≡◌, ℕ, ◌+◌, List, Option}
use Rattle.wtf_base.specs.declared.kept.Kept.{Kept}
use Rattle.wtf_base.specs.declared.slice.Slice.{Slice}
use Rattle.wtf_occ.specs.Attempts.{Grows}
use Rattle.wtf_model.specs.declared.answer.Answer.{Answer}
use Rattle.wtf_model.specs.declared.op.Op.{Op}
use Rattle.wtf_model.specs.Steps.{IsLogged}
use Rattle.wtf_log.specs.Calls.{with_call}
use Rattle.wtf_replay.specs.Views.{TxnView}
use Rattle.wtf_replay.specs.Keeps.{IsKeptOf, LacksData}

-- a logged call stands in the log with its answer, and the transaction goes on at its base
pub record IsLoggedAs (old new : TxnView) (kept : Op Kept) (a : Answer) : Type 0 where
  pub answer : IsLogged a
  pub log : new.log ≡ with_call old.log kept a
  pub tx : new.tx ≡ old.tx
  pub grows : Grows old.at new.at
  pub replayed : new.replayed ≡ old.replayed + 1
  pub ended : new.ended ≡ old.ended

-- and so does a call, which the log keeps with the slice that was stored of its data
pub record IsCalled (old new : TxnView) (o : Op (List ℕ)) (own : Option Slice) (a : Answer) : Type 0 where
  pub kept : Op Kept
  pub kept_is : IsKeptOf o own kept
  pub lacks : LacksData o own a
  pub logged : IsLoggedAs old new kept a
