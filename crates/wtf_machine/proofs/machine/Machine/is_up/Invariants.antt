use Rattle.std.proofs.Common.{◌≡◌, ◌<◌, ◌-◌, ℕ, false}
use Rattle.std.specs.FinSet.{contains}
use Rattle.wtf_machine.proofs.machine.Machine.is_up.Given as goal

-- the servers before this one are up
abbrev pub invariant-loop-k : goal.invariant-loop-k
invariant-loop-k l = (j : ℕ) → j < l.k → contains l.self.down j ≡ false

abbrev pub decreases-loop-k : goal.decreases-loop-k
decreases-loop-k l = l.self.settings.servers - l.k
