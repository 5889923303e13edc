use Rattle.std.proofs.Common.{◌≡◌, drop, ◌++◌}
use Rattle.wtf_gc.specs.Spans.{gaps_from}
use Rattle.wtf_gc.proofs.spans.sweep.Given as goal

abbrev pub invariant-loop-s : goal.invariant-loop-s
invariant-loop-s l = l.found.items ++ gaps_from l.at l.mark (drop l.s-index l.spans) ≡ gaps_from 0 l.mark l.spans
