use Rattle.std.proofs.Common.{◌≤◌, ◌-◌, replicate}
use Rattle.std.specs.Io.KnownBytes.{Appends}
use Rattle.wtf_real.proofs.parts.write_zeros.Given as goal

-- what is not left was written
abbrev pub invariant-loop-left : goal.invariant-loop-left
invariant-loop-left g l = (l.left ≤ l.fn.len) × Appends (g.W.Write.contents l.initial.to) (g.W.Write.contents l.to) (replicate (l.fn.len - l.left) 0)

abbrev pub decreases-loop-left : goal.decreases-loop-left
decreases-loop-left g l = l.left
