use Rattle.std.proofs.Common.{ℕ, Bool, length}
use Rattle.wtf_overlay.specs.Runs.{IsRun, SameFrom}
use Rattle.wtf_overlay.specs.Edges.{EdgesIn}
use Rattle.wtf_overlay.proofs.planning.past.Given as goal

abbrev pub invariant-loop-e : goal.invariant-loop-e
invariant-loop-e l = record {
  run : IsRun l.rest;
  same : SameFrom l.x l.run l.rest;
  edges : (p : ℕ → Bool) → EdgesIn p l.run → EdgesIn p l.rest;
}

abbrev pub decreases-loop-e : goal.decreases-loop-e
decreases-loop-e l = length l.rest
