use Rattle.std.proofs.Common.{◌≡◌, true, take}
use Rattle.std.specs.List.{list_all}
use Rattle.wtf_base.specs.Slices.{pointers_of}
use Rattle.wtf_replica.specs.Inside.{size_in, lies_inside}
use Rattle.wtf_replica.proofs.inside.slice_lies_inside.Given as goal

abbrev pub invariant-loop-i : goal.invariant-loop-i
invariant-loop-i g l = list_all (lies_inside l.servers (size_in g.S.SliceStore.kind l.shelf)) (take l.i (pointers_of l.slice)) ≡ true
