use Rattle.std.proofs.Common.{◌≡◌, length, arith}
use Rattle.wtf_gc.proofs.Noted.{marks_all}
use Rattle.wtf_gc.proofs.marks.lengths.Goals as goal

pub returns : goal.returns
returns g c =
    let done : c.loop-k.k ≡ length c.args.shelf.now = omega (arith, c.len-k-end.ensures.value, c.loop-k-test.false, c.loop-k.auto.k-end) in
    marks_all g.S.SliceStore.kind c.args.shelf.now c.loop-k.k c.loop-k.marks.items c.loop-k.invariant done
