use Rattle.std.proofs.Common.{◌≡◌, true, take}
use Rattle.std.specs.List.{list_all}
use Rattle.wtf_base.specs.Slices.{pointers_of}
use Rattle.wtf_image.specs.Rules.{is_lost, lies_inside_without, size_in}
use Rattle.wtf_image.proofs.inside.is_slice_inside.Given as goal

abbrev pub invariant-loop-i : goal.invariant-loop-i
invariant-loop-i g l = list_all (lies_inside_without (is_lost l.lost) l.servers (size_in g.S.SliceStore.kind l.shelf)) (take l.i (pointers_of l.slice)) ≡ true
