use Rattle.std.proofs.Common.{◌≡◌, false, take}
use Rattle.std.specs.List.{list_any}
use Rattle.wtf_model.specs.Items.{is_among}
use Rattle.wtf_machine.proofs.items.meets.Given as goal

-- none of the others so far is one of the items
abbrev pub invariant-loop-other : goal.invariant-loop-other
invariant-loop-other l = list_any (is_among l.items) (take l.other-index l.others) ≡ false
