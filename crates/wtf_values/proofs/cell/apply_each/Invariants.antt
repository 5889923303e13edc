use Rattle.std.proofs.Common.{◌≡◌, drop}
use Rattle.wtf_kv.specs.Staging.{run_made, run_fits}
use Rattle.wtf_values.specs.Outcomes.{outcome_of}
use Rattle.wtf_values.proofs.cell.apply_each.Given as goal

abbrev pub invariant-loop-change : goal.invariant-loop-change
invariant-loop-change g l = record {
  fits : run_fits outcome_of (drop l.change-index l.run) l.now ≡ run_fits outcome_of l.run l.initial.now;
  made : run_made outcome_of (drop l.change-index l.run) l.now ≡ run_made outcome_of l.run l.initial.now;
}
