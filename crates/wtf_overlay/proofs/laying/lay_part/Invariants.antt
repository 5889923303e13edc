use Rattle.std.proofs.Common.{◌≡◌, ℕ, ◌≤◌, length, List, Bool, true, ◌⊎◌}
use Rattle.wtf_overlay.specs.Edges.{EdgesIn}
use Rattle.wtf_overlay.specs.Origin.{Place}
use Rattle.wtf_overlay.specs.Runs.{IsRun, SameFrom, Tells, Built}
use Rattle.wtf_overlay.proofs.laying.lay_part.Given as goal

-- up to x all is laid, and from x on the rest shows what the run shows
abbrev pub invariant-loop-e : goal.invariant-loop-e
invariant-loop-e l = record {
  begun : l.from ≤ l.x;
  within : l.x ≤ l.to;
  run : IsRun l.rest;
  same : SameFrom l.x l.run l.rest;
  built : (f : List Place → ℕ → List Place) → Built l.fn.out.items l.from f → Tells l.from l.to f l.run → Built l.out.items l.x f;
  edges : (p : ℕ → Bool) → (p l.from ≡ true) ⊎ (l.from ≡ 0) → EdgesIn p l.fn.out.items → EdgesIn p l.run
      → EdgesIn p l.out.items × EdgesIn p l.rest × ((p l.x ≡ true) ⊎ (l.x ≡ 0));
}

abbrev pub decreases-loop-e : goal.decreases-loop-e
decreases-loop-e l = length l.rest
