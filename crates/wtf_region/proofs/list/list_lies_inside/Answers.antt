use Rattle.std.proofs.Common.{sym, ◌∙◌}
use Rattle.wtf_replica.specs.Inside.{size_in}
use Rattle.wtf_region.proofs.InsideLaws.{list_lies-more, list_lies-not}
use Rattle.wtf_region.proofs.list.list_lies_inside.Goals as goal

pub loop-i-preserved : goal.loop-i-preserved
loop-i-preserved g c =
    list_lies-more c.args.servers (size_in g.S.SliceStore.kind c.args.shelf.now) c.args.list.now c.loop-i.i c.get-e.result c.get-e.ensures
    (sym c.part_lies_inside.ensures ∙ c.if-not-part_lies_inside.false) c.loop-i.invariant

pub returns-then-not-part_lies_inside : goal.returns-then-not-part_lies_inside
returns-then-not-part_lies_inside g c =
    sym (list_lies-not c.args.servers (size_in g.S.SliceStore.kind c.args.shelf.now) c.args.list.now c.loop-i.i c.get-e.result c.get-e.ensures
    (sym c.part_lies_inside.ensures ∙ c.if-not-part_lies_inside.true))
