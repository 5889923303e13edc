use Rattle.std.proofs.Common.{◌≡◌, ℕ, ◌-◌, ◌+◌, ◌≤◌, List, take}
use Rattle.wtf_path.proofs.order.compare.Given as goal

pub record Sofar (first second : List ℕ) (last at : ℕ) : Type 0 where
  pub within : at ≤ last + 7
  pub alike : take at first ≡ take at second

abbrev pub invariant-loop-at : goal.invariant-loop-at
invariant-loop-at l = Sofar l.first l.second l.last l.at

abbrev pub decreases-loop-at : goal.decreases-loop-at
decreases-loop-at l = l.last - l.at
