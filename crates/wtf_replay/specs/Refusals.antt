-- The refusals of a transaction itself: they are answered, and leave all as it was.
use Rattle.std.specs.Prelude.{if◌then◌else◌, Option, Some, None}
use Rattle.std.specs.Option.{option_map}
use Rattle.wtf_model.specs.declared.answer.Answer.{Answer}
use Rattle.wtf_model.specs.declared.answer.Answer.TheVariants as answer
use Rattle.wtf_model.specs.declared.answer.Word.{Word}
use Rattle.wtf_model.specs.declared.answer.Word.TheVariants.{Replaying, Full, Live}
use Rattle.wtf_replay.specs.Views.{TxnView, is_txn_live, is_full}

-- of a call, in their order: a replay runs, the log is full
abbrev pub call_refusal : TxnView → Option Word
call_refusal x = if is_txn_live x then (if is_full x then Some Full else None) else Some Replaying

-- of an attempt: a replay runs
abbrev pub try_refusal : TxnView → Option Word
try_refusal x = if is_txn_live x then None else Some Replaying

-- of a step: no replay runs
abbrev pub step_refusal : TxnView → Option Word
step_refusal x = if is_txn_live x then Some Live else None

-- what is answered to a call that is not made: it is refused
abbrev pub unmade : TxnView → Option Answer
unmade x = option_map answer.Refused (call_refusal x)
