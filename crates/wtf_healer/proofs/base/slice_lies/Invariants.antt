use Rattle.std.proofs.Common.{◌≡◌, true, take}
use Rattle.std.specs.List.{list_all}
use Rattle.wtf_base.specs.Slices.{pointers_of}
use Rattle.wtf_replica.specs.Downs.{is_down}
use Rattle.wtf_replica.specs.Inside.{size_in}
use Rattle.wtf_image.specs.Rules.{lies_inside_without}
use Rattle.wtf_healer.proofs.base.slice_lies.Given as goal

abbrev pub invariant-loop-i : goal.invariant-loop-i
invariant-loop-i g l =
    list_all (lies_inside_without (is_down l.replicas) l.servers (size_in g.S.SliceStore.kind l.shelf)) (take l.i (pointers_of l.slice)) ≡ true
