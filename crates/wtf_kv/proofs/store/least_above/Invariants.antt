use Rattle.std.proofs.Common.{take}
use Rattle.wtf_kv.specs.Order.{IsLeastAbove}
use Rattle.wtf_kv.proofs.store.least_above.Given as goal

abbrev pub invariant-loop-n : goal.invariant-loop-n
invariant-loop-n l = IsLeastAbove (take l.n-index l.numbers) l.after l.least
