use Rattle.std.proofs.Common.{◌≤◌, length}
use Rattle.wtf_chunks.proofs.chunks.joined_from.Given as goal

abbrev pub invariant-loop-from : goal.invariant-loop-from
invariant-loop-from g l = l.from ≤ length l.sealed

abbrev pub decreases-loop-from : goal.decreases-loop-from
decreases-loop-from g l = l.from
