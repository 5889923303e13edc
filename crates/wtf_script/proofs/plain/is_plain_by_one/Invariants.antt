use Rattle.std.proofs.Common.{◌-◌}
use Rattle.wtf_script.specs.Plain.{ArePlain}
use Rattle.wtf_script.proofs.plain.is_plain_by_one.Given as goal

abbrev pub invariant-loop-i : goal.invariant-loop-i
invariant-loop-i l = ArePlain l.line 0 (l.i - 1)
