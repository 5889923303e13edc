use Rattle.std.proofs.Common.{◌≡◌, drop}
use Rattle.wtf_values.specs.Regions.{end_over}
use Rattle.wtf_values.proofs.apply.last_end.Given as goal

abbrev pub invariant-loop-e : goal.invariant-loop-e
invariant-loop-e l = end_over l.last (drop l.e-index l.entries) ≡ end_over l.initial.last l.entries
