use Rattle.std.proofs.Common.{◌≡◌, true, take}
use Rattle.wtf_replica.specs.Inside.{size_in}
use Rattle.wtf_region.specs.Inside.{list_lies_inside}
use Rattle.wtf_region.proofs.list.list_lies_inside.Given as goal

-- what the entries so far name lies inside the stores
abbrev pub invariant-loop-i : goal.invariant-loop-i
invariant-loop-i g l = list_lies_inside l.servers (size_in g.S.SliceStore.kind l.shelf) (take l.i l.list) ≡ true
