use Rattle.std.proofs.Common.{◌≡◌, false, take}
use Rattle.std.specs.List.{list_any}
use Rattle.wtf_model.specs.Items.{same_item}
use Rattle.wtf_machine.proofs.items.is_among.Given as goal

-- none of the items so far is the same
abbrev pub invariant-loop-item : goal.invariant-loop-item
invariant-loop-item l = list_any (same_item l.it) (take l.item-index l.items) ≡ false
