use Rattle.std.proofs.Common.{◌≡◌, ℕ, ◌<◌, length, get_or, List}
use Rattle.wtf_path.proofs.slashes.last_slash.Given as goal

pub record Sofar (text : List ℕ) (at : ℕ) : Type 0 where
  pub within : at < length text
  pub last : (k : ℕ) → at < k → k < length text → get_or text k 0 ≡ 47 → ⊥

abbrev pub invariant-loop-at : goal.invariant-loop-at
invariant-loop-at l = Sofar l.text l.at

abbrev pub decreases-loop-at : goal.decreases-loop-at
decreases-loop-at l = l.at
