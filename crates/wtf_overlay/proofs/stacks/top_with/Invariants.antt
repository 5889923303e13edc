use Rattle.std.proofs.Common.{ℕ, Bool, ◌≤◌, length, drop}
use Rattle.wtf_overlay.specs.Origin.{origin_from}
use Rattle.wtf_overlay.specs.Runs.{IsRun, Shows}
use Rattle.wtf_overlay.specs.Edges.{EdgesIn}
use Rattle.wtf_overlay.specs.Stacks.{stack, EdgesOf}
use Rattle.wtf_overlay.proofs.stacks.top_with.Given as goal

-- the run shows what the runs from n on show under the newest
abbrev pub invariant-loop-n : goal.invariant-loop-n
invariant-loop-n l = record {
  within : l.n ≤ length l.runs;
  run : IsRun l.run.items;
  shows : Shows l.run.items (λ b y. origin_from (stack (drop l.n l.runs) b y) l.fn.newest.items y);
  edges : (p : ℕ → Bool) → EdgesIn p l.fn.newest.items → EdgesOf p l.runs → EdgesIn p l.run.items;
}

abbrev pub decreases-loop-n : goal.decreases-loop-n
decreases-loop-n l = l.n
