use Rattle.std.proofs.Common.{◌≡◌, take}
use Rattle.wtf_machine.proofs.items.copy_items.Given as goal

-- the items so far are copied
abbrev pub invariant-loop-item : goal.invariant-loop-item
invariant-loop-item l = l.copied.items ≡ take l.item-index l.items
