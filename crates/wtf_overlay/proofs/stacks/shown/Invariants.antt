use Rattle.std.proofs.Common.{ℕ, Bool, ◌≡◌, ◌<◌, ◌≤◌, length, List, drop}
use Rattle.wtf_overlay.specs.Origin.{Place, origin_from}
use Rattle.wtf_overlay.specs.Runs.{IsRun}
use Rattle.wtf_overlay.specs.Edges.{EdgesIn}
use Rattle.wtf_overlay.specs.Stacks.{stack, EdgesOf}
use Rattle.wtf_overlay.proofs.stacks.shown.Given as goal

-- within the range, what is shown already is what the runs from n on show under the newest
abbrev pub invariant-loop-n : goal.invariant-loop-n
invariant-loop-n l = record {
  within : l.n ≤ length l.runs;
  run : IsRun l.all.items;
  shows : (b : List Place) (y : ℕ) → l.from ≤ y → y < l.to → origin_from b l.all.items y ≡ origin_from (stack (drop l.n l.runs) b y) l.fn.newest.items y;
  edges : (p : ℕ → Bool) → EdgesIn p l.fn.newest.items → EdgesOf p l.runs → EdgesIn p l.all.items;
}

abbrev pub decreases-loop-n : goal.decreases-loop-n
decreases-loop-n l = l.n
