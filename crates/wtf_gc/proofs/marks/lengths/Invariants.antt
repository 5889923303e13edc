use Rattle.std.proofs.Common.{◌*◌}
use Rattle.wtf_gc.specs.Views.{MarksUpto}
use Rattle.wtf_gc.proofs.marks.lengths.Given as goal

abbrev pub invariant-loop-k : goal.invariant-loop-k
invariant-loop-k g l = MarksUpto g.S.SliceStore.kind l.shelf (l.k * 8) l.marks.items
