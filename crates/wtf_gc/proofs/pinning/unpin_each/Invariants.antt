use Rattle.std.proofs.Common.{take}
use Rattle.wtf_gc.specs.Pinning.{IsPinnedFor}
use Rattle.wtf_gc.proofs.pinning.unpin_each.Given as goal

-- the pins of the numbers so far are undone
abbrev pub invariant-loop-number : goal.invariant-loop-number
invariant-loop-number l = IsPinnedFor (take l.number-index l.numbers) l.kv l.initial.kv
