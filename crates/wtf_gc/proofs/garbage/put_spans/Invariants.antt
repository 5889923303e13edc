use Rattle.std.proofs.Common.{◌≡◌, ◌++◌, map, take}
use Rattle.wtf_gc.specs.Frees.{ranges_of}
use Rattle.wtf_gc.specs.Unused.{range_at}
use Rattle.wtf_gc.proofs.garbage.put_spans.Given as goal

abbrev pub invariant-loop-s : goal.invariant-loop-s
invariant-loop-s l = ranges_of l.to.items ≡ ranges_of l.fn.to.items ++ map (range_at l.k l.file) (take l.s-index l.spans)
