use Rattle.std.proofs.Common.{◌≡◌, ℕ, ◌-◌, ◌≤◌, List, take}
use Rattle.wtf_path.proofs.order.compare_each.Given as goal

-- the first bytes of both are the same
pub record Alike (first second : List ℕ) (both at : ℕ) : Type 0 where
  pub within : at ≤ both
  pub alike : take at first ≡ take at second

abbrev pub invariant-loop-at : goal.invariant-loop-at
invariant-loop-at l = Alike l.first l.second l.both l.at

abbrev pub decreases-loop-at : goal.decreases-loop-at
decreases-loop-at l = l.both - l.at
