use Rattle.std.proofs.Common.{◌≡◌, take}
use Rattle.wtf_kv.specs.Staging.{AreDeltasOf}
use Rattle.wtf_kv.proofs.history.run_len.Given as goal

abbrev pub invariant-loop-change : goal.invariant-loop-change
invariant-loop-change g l = record {
  all : l.count ≡ l.change-index;
  run : AreDeltasOf l.key (take l.change-index l.changes);
}
