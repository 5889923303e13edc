use Rattle.std.proofs.Common.{◌≡◌, ◌≤◌, ◌-◌, length, take, drop}
use Rattle.wtf_kv.specs.Stores.{ShowsSame}
use Rattle.wtf_kv.specs.Staging.{next_value, IsStagedByAll}
use Rattle.wtf_kv.specs.Edits.{first_unfit}
use Rattle.wtf_kv.proofs.history.History.stage_all.Given as goal

abbrev pub invariant-loop-i : goal.invariant-loop-i
invariant-loop-i g l = record {
  within : l.i ≤ length l.changes;
  same : ShowsSame g.K.Ord.cmp l.initial.self l.self;
  made : IsStagedByAll g.K.Ord.cmp g.C.Cell.outcome (take l.i l.changes) l.initial.self l.self;
  fits : first_unfit g.K.Ord.cmp g.C.Cell.outcome (drop l.i l.changes) (next_value g.K.Ord.cmp l.self) ≡ first_unfit g.K.Ord.cmp g.C.Cell.outcome l.changes (next_value g.K.Ord.cmp l.initial.self);
}

abbrev pub decreases-loop-i : goal.decreases-loop-i
decreases-loop-i g l = length l.changes - l.i
