use Rattle.wtf_clients.proofs.Pinning.{Undone}
use Rattle.wtf_clients.proofs.tables.unpin_all.Given as goal

-- the pins of the numbers so far are undone
abbrev pub invariant-loop-number : goal.invariant-loop-number
invariant-loop-number l = Undone l.initial.kv l.kv l.numbers l.number-index
