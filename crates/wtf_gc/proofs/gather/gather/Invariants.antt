use Rattle.std.specs.Option.{option_copied}
use Rattle.wtf_kv.specs.Order.{IsReached, left_from}
use Rattle.wtf_values.specs.Keys.{key_cmp}
use Rattle.wtf_gc.specs.Parts.{GathersUpto}
use Rattle.wtf_gc.proofs.gather.gather.Given as goal

pub record Walking (upto reached : Type 0) : Type 0 where
  pub so_far : upto
  pub next : reached

abbrev pub invariant-loop-at : goal.invariant-loop-at
invariant-loop-at l = Walking
    (GathersUpto l.kv l.parts (option_copied l.at) l.to.found l.to.bases.items)
    (IsReached key_cmp l.kv (option_copied l.at))

abbrev pub decreases-loop-at : goal.decreases-loop-at
decreases-loop-at l = left_from key_cmp l.kv (option_copied l.at)
