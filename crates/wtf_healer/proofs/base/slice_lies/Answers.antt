use Rattle.std.proofs.Common.{sym, ◌∙◌}
use Rattle.wtf_base.specs.Slices.{pointers_of}
use Rattle.wtf_replica.specs.Downs.{is_down}
use Rattle.wtf_replica.specs.Inside.{size_in}
use Rattle.wtf_image.specs.Rules.{lies_inside_without}
use Rattle.wtf_healer.proofs.Walks.{all_more, all_not}
use Rattle.wtf_healer.proofs.base.slice_lies.Goals as goal

pub loop-i-preserved : goal.loop-i-preserved
loop-i-preserved g c =
    all_more (lies_inside_without (is_down c.args.replicas.now) c.args.servers (size_in g.S.SliceStore.kind c.args.shelf.now)) (pointers_of c.args.slice.now)
    c.loop-i.i c.pointer.result c.pointer.ensures.value (sym c.copy_lies.ensures ∙ c.if-not-copy_lies.false) c.loop-i.invariant

pub returns-then-not-copy_lies : goal.returns-then-not-copy_lies
returns-then-not-copy_lies g c =
    sym (all_not (lies_inside_without (is_down c.args.replicas.now) c.args.servers (size_in g.S.SliceStore.kind c.args.shelf.now))
    (pointers_of c.args.slice.now)
    c.loop-i.i c.pointer.result c.pointer.ensures.value (sym c.copy_lies.ensures ∙ c.if-not-copy_lies.true))
