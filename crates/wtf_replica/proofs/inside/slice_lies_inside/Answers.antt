use Rattle.std.proofs.Common.{sym, ◌∙◌}
use Rattle.wtf_base.specs.Slices.{pointers_of}
use Rattle.wtf_replica.specs.Inside.{size_in}
use Rattle.wtf_replica.proofs.InsideLaws.{lies_more}
use Rattle.wtf_replica.proofs.inside.slice_lies_inside.Goals as goal

pub loop-i-preserved : goal.loop-i-preserved
loop-i-preserved g c =
    lies_more c.args.servers (size_in g.S.SliceStore.kind c.args.shelf.now) (pointers_of c.args.slice.now) c.loop-i.i c.pointer.result c.pointer.ensures.value (sym c.lies_inside.ensures ∙ c.if-not-lies_inside.false) c.loop-i.invariant
