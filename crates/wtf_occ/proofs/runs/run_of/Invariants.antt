use Rattle.std.proofs.Common.{◌≡◌, ◌-◌}
use Rattle.wtf_occ.specs.Positions.{upto}
use Rattle.wtf_occ.proofs.runs.run_of.Given as goal

-- the positions so far
abbrev pub invariant-loop-i : goal.invariant-loop-i
invariant-loop-i l = l.run.items ≡ upto l.from (l.i - l.from)
