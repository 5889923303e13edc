use Rattle.std.proofs.Common.{◌≡◌, drop}
use Rattle.wtf_kv.specs.Staging.{run_made, run_fits}
use Rattle.wtf_kv.proofs.cell.Cell.apply_all.Given as goal

abbrev pub invariant-loop-change : goal.invariant-loop-change
invariant-loop-change g l = record {
  fits : run_fits g.Self.Cell.outcome (drop l.change-index l.run) l.now ≡ run_fits g.Self.Cell.outcome l.run l.initial.now;
  made : run_made g.Self.Cell.outcome (drop l.change-index l.run) l.now ≡ run_made g.Self.Cell.outcome l.run l.initial.now;
}
