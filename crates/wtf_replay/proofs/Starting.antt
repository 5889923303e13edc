-- Transactions of which nothing is done at their base.
use Rattle.std.proofs.Common.{ℕ, List, []}
use Rattle.wtf_kv.specs.Stores.{Store}
use Rattle.wtf_model.specs.declared.op.Op.{Op}
use Rattle.wtf_values.specs.declared.key.Key.{Key}
use Rattle.wtf_values.specs.declared.value.Value.{Value}
use Rattle.wtf_log.specs.Standing.{OpsStandFor}
use Rattle.wtf_meta.specs.Maps.{metadata_at}
use Rattle.wtf_meta.specs.Contents.{Told, is_told}
use Rattle.wtf_meta.proofs.Named.{PiecesBytes-none}
use Rattle.wtf_meta.proofs.Nothing.{run_none}
use Rattle.wtf_replay.specs.Views.{TxnView, rebased}
use Rattle.wtf_replay.specs.Sounds.{tells_slice, caller_at, LogStands}

-- a transaction that begins again at a number
pub sound_rebased : (size : ℕ) (kv : Store Key Value) (told : Told) (x : TxnView) (n : ℕ) (ops : List (Op (List ℕ)))
    → OpsStandFor (tells_slice told) x.log.ops ops → LogStands size kv told (rebased x n) ops
sound_rebased size kv told x n ops stand = record {
  facts = [];
  stored = [];
  lists = [];
  ops_are = stand;
  told_are = tt;
  stored_are = PiecesBytes-none (is_told told);
  kept = λ P log. PiecesBytes-none P;
  lists_are = tt;
  run = run_none (caller_at size x.tx 0) (metadata_at kv n);
}
