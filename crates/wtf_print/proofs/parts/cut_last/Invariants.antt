use Rattle.std.proofs.Common.{◌≡◌, ℕ, ◌<◌, ◌≤◌, length, get_or, List}
use Rattle.wtf_print.proofs.parts.cut_last.Given as goal

-- no colon stands at `at` or behind
pub record Sofar (text : List ℕ) (at : ℕ) : Type 0 where
  pub within : at ≤ length text
  pub last : (k : ℕ) → at ≤ k → k < length text → get_or text k 0 ≡ 58 → ⊥

abbrev pub invariant-loop-at : goal.invariant-loop-at
invariant-loop-at l = Sofar l.text l.at

abbrev pub decreases-loop-at : goal.decreases-loop-at
decreases-loop-at l = l.at
