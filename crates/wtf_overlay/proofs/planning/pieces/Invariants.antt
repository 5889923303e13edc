use Rattle.std.proofs.Common.{◌≡◌, ◌⊎◌, ◌+◌, ◌-◌, ◌≤◌, length, List}
use Rattle.wtf_overlay.specs.declared.part.Entry.{Entry}
use Rattle.wtf_overlay.specs.Origin.{origin, Plans}
use Rattle.wtf_overlay.specs.Borders.{borders_above}
use Rattle.wtf_overlay.specs.Runs.{IsRun, SameFrom}
use Rattle.wtf_overlay.specs.Edges.{EdgesIn, is_edge}
use Rattle.wtf_overlay.proofs.planning.pieces.Given as goal

abbrev pub invariant-loop-x : goal.invariant-loop-x
invariant-loop-x l = record {
  begun : l.off ≤ l.x;
  within : l.x ≤ l.to;
  run : IsRun l.rest;
  same : SameFrom l.x l.run l.rest;
  plans : Plans l.out.items (l.x - l.off) (λ i. origin l.run (l.off + i));
  count : (es : List Entry) → EdgesIn (is_edge es) l.run
      → EdgesIn (is_edge es) l.rest
      × ((length l.out.items + borders_above es l.x ≤ borders_above es l.off) ⊎ ((l.x ≡ l.to) × (length l.out.items ≤ borders_above es l.off + 1)));
}

abbrev pub decreases-loop-x : goal.decreases-loop-x
decreases-loop-x l = l.to - l.x
