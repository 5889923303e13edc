use Rattle.std.proofs.Common.{◌≤◌}
use Rattle.wtf_slicing.proofs.cutting.count_upto.Given as goal

-- no more than the pieces so far
abbrev pub invariant-loop-piece : goal.invariant-loop-piece
invariant-loop-piece l = l.count ≤ l.piece-index
