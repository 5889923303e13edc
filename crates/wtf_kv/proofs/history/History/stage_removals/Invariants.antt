use Rattle.std.proofs.Common.{take, None}
use Rattle.wtf_kv.specs.Stores.{names, ShowsSame}
use Rattle.wtf_kv.specs.Staging.{IsStaged}
use Rattle.wtf_kv.proofs.history.History.stage_removals.Given as goal

abbrev pub invariant-loop-key : goal.invariant-loop-key
invariant-loop-key g l = record {
  same : ShowsSame g.K.Ord.cmp l.initial.self l.self;
  done : IsStaged g.K.Ord.cmp (names g.K.Ord.cmp (take l.key-index l.keys)) None l.initial.self l.self;
}
