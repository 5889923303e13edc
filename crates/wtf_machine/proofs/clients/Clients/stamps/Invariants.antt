use Rattle.std.proofs.Common.{◌≡◌, ◌++◌, map}
use Rattle.std.specs.FinMap.{values}
use Rattle.wtf_machine.specs.Verdicts.{open_in}
use Rattle.wtf_machine.specs.Kept.{clients_in}
use Rattle.wtf_machine.proofs.clients.Clients.stamps.Given as goal

-- the stamps so far and those of the transactions that are left are those of all
abbrev pub invariant-loop-t : goal.invariant-loop-t
invariant-loop-t l =
    l.into.items ++ map (λ t. t.stamp) (map (λ e. open_in l.self.changed.items e.1) l.rest)
    ≡ l.initial.into.items ++ map (λ t. t.stamp) (values (clients_in l.self))
