use Rattle.std.proofs.Common.{length}
use Rattle.wtf_overlay.proofs.Compacts.{Compacting}
use Rattle.wtf_overlay.proofs.compacting.compacted.Given as goal

abbrev pub invariant-loop-e : goal.invariant-loop-e
invariant-loop-e l = Compacting l.out.items l.rest l.run

abbrev pub decreases-loop-e : goal.decreases-loop-e
decreases-loop-e l = length l.rest
