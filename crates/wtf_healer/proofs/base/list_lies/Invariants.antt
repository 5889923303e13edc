use Rattle.std.proofs.Common.{◌≡◌, true, take}
use Rattle.wtf_replica.specs.Downs.{is_down}
use Rattle.wtf_replica.specs.Inside.{size_in}
use Rattle.wtf_healer.specs.Bases.{list_lies}
use Rattle.wtf_healer.proofs.base.list_lies.Given as goal

abbrev pub invariant-loop-i : goal.invariant-loop-i
invariant-loop-i g l = list_lies (is_down l.replicas) l.servers (size_in g.S.SliceStore.kind l.shelf) (take l.i l.list) ≡ true
