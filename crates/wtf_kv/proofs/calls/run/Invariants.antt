use Rattle.std.proofs.Common.{take}
use Rattle.wtf_kv.specs.Calls.{Steps}
use Rattle.wtf_kv.proofs.calls.run.Given as goal

abbrev pub invariant-loop-call : goal.invariant-loop-call
invariant-loop-call g l = Steps g.K.Ord.cmp g.C.Cell.outcome l.m (take l.call-index l.calls) l.initial.kv l.kv
