use Rattle.std.proofs.Common.{length}
use Rattle.wtf_machine.proofs.ScanWays.{IsFirst}
use Rattle.wtf_machine.proofs.clients.Clients.first_begun.Given as goal

-- of the transactions that were taken from the back, and whose stamps were noted, this one began first
abbrev pub invariant-loop-c : goal.invariant-loop-c
invariant-loop-c l = IsFirst l.self.changed.items l.noted l.self.items.entries l.rest l.first

abbrev pub decreases-loop-c : goal.decreases-loop-c
decreases-loop-c l = length l.rest
