use Rattle.std.proofs.Common.{length}
use Rattle.wtf_overlay.proofs.Looked.{Looked}
use Rattle.wtf_overlay.proofs.checking.look.Given as goal

abbrev pub invariant-loop-e : goal.invariant-loop-e
invariant-loop-e l = Looked l.end l.entries l.rest

abbrev pub decreases-loop-e : goal.decreases-loop-e
decreases-loop-e l = length l.rest
