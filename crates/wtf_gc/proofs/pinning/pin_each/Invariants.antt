use Rattle.std.proofs.Common.{◌-◌, length, take}
use Rattle.wtf_gc.specs.Pinning.{IsPinnedFor}
use Rattle.wtf_gc.proofs.pinning.pin_each.Given as goal

-- the numbers so far are pinned
abbrev pub invariant-loop-i : goal.invariant-loop-i
invariant-loop-i l = IsPinnedFor (take l.i l.numbers) l.initial.kv l.kv

abbrev pub decreases-loop-i : goal.decreases-loop-i
decreases-loop-i l = length l.numbers - l.i
