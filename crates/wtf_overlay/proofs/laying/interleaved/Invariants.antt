use Rattle.std.proofs.Common.{◌≡◌, ℕ, ◌^◌, length, Bool, true, ◌⊎◌}
use Rattle.wtf_overlay.specs.Edges.{EdgesIn}
use Rattle.wtf_overlay.specs.Runs.{IsRun, IsRunIn, laid_over, SameFrom, Built}
use Rattle.wtf_overlay.proofs.laying.interleaved.Given as goal

-- up to x all is laid, and from x on `over` and `rest` show what newer and older show
abbrev pub invariant-loop-e : goal.invariant-loop-e
invariant-loop-e l = record {
  over : IsRunIn l.x (2 ^ 32) l.over;
  run : IsRun l.rest;
  same_over : SameFrom l.x l.newer l.over;
  same_rest : SameFrom l.x l.older l.rest;
  built : Built l.out.items l.x (laid_over l.newer l.older);
  edges : (p : ℕ → Bool) → EdgesIn p l.newer → EdgesIn p l.older
      → EdgesIn p l.out.items × EdgesIn p l.over × EdgesIn p l.rest × ((p l.x ≡ true) ⊎ (l.x ≡ 0));
}

abbrev pub decreases-loop-e : goal.decreases-loop-e
decreases-loop-e l = length l.over
