use Rattle.std.proofs.Common.{◌*◌, ◌+◌}
use Rattle.wtf_gc.specs.Views.{MarksUpto}
use Rattle.wtf_gc.proofs.marks.add_lengths.Given as goal

abbrev pub invariant-loop-file : goal.invariant-loop-file
invariant-loop-file g l = MarksUpto g.S.SliceStore.kind l.shelf (l.k * 8 + l.file) l.marks.items
