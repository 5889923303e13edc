use Rattle.std.proofs.Common.{◌≡◌, ℕ, ◌<◌, ◌≤◌, Bool, List, length}
use Rattle.wtf_overlay.specs.Origin.{Place, origin_from}
use Rattle.wtf_overlay.specs.Runs.{IsRun}
use Rattle.wtf_overlay.specs.Edges.{EdgesIn}
use Rattle.wtf_overlay.proofs.tails.laid_under.Given as goal

-- within the range, the rest with the run over it shows what the tail shows under what lies over it
abbrev pub invariant-loop-e : goal.invariant-loop-e
invariant-loop-e l = record {
  run : IsRun l.run.items;
  same : (b : List Place) (y : ℕ) → l.from ≤ y → y < l.to
      → origin_from (origin_from b l.tail y) l.fn.over.items y ≡ origin_from (origin_from b l.rest y) l.run.items y;
  edges : (p : ℕ → Bool) → EdgesIn p l.fn.over.items → EdgesIn p l.tail → EdgesIn p l.rest × EdgesIn p l.run.items;
}

abbrev pub decreases-loop-e : goal.decreases-loop-e
decreases-loop-e l = length l.rest
