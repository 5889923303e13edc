use Rattle.std.proofs.Common.{◌-◌}
use Rattle.wtf_script.specs.Plain.{ArePlain}
use Rattle.wtf_script.proofs.plain.is_plain_before_last.Given as goal

abbrev pub invariant-loop-at : goal.invariant-loop-at
invariant-loop-at l = ArePlain l.line 0 l.at

abbrev pub decreases-loop-at : goal.decreases-loop-at
decreases-loop-at l = l.last - l.at
