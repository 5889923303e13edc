use Rattle.std.proofs.Common.{sym, ◌∙◌}
use Rattle.wtf_base.specs.Slices.{pointers_of}
use Rattle.wtf_image.specs.Rules.{is_lost, lies_inside_without, size_in}
use Rattle.wtf_image.proofs.Elements.{one_fails, one_more_passes}
use Rattle.wtf_image.proofs.inside.is_slice_inside.Goals as goal

pub returns-then-not-is_extent_inside : goal.returns-then-not-is_extent_inside
returns-then-not-is_extent_inside g c =
    sym (one_fails (lies_inside_without (is_lost c.args.lost) c.args.servers (size_in g.S.SliceStore.kind c.args.shelf.now)) (pointers_of c.args.slice.now)
    c.loop-i.i c.pointer.result c.pointer.ensures.value (sym c.is_extent_inside.ensures ∙ c.if-not-is_extent_inside.true))

pub loop-i-preserved : goal.loop-i-preserved
loop-i-preserved g c =
    one_more_passes (lies_inside_without (is_lost c.args.lost) c.args.servers (size_in g.S.SliceStore.kind c.args.shelf.now)) (pointers_of c.args.slice.now)
    c.loop-i.i c.pointer.result c.pointer.ensures.value (sym c.is_extent_inside.ensures ∙ c.if-not-is_extent_inside.false) c.loop-i.invariant
