use Rattle.std.specs.Option.{option_copied}
use Rattle.wtf_kv.specs.Order.{IsNextKey, IsReached, left_from}
use Rattle.wtf_kv.proofs.examples.last_key.Given as goal

-- the walk has come from the last key to the one that is next
pub record Walked (next reached : Type 0) : Type 0 where
  pub next_is : next
  pub has_version : reached

abbrev pub invariant-loop-at : goal.invariant-loop-at
invariant-loop-at g l = Walked
    (IsNextKey g.K.Ord.cmp l.kv (option_copied l.last) (option_copied l.at))
    (IsReached g.K.Ord.cmp l.kv (option_copied l.at))

abbrev pub decreases-loop-at : goal.decreases-loop-at
decreases-loop-at g l = left_from g.K.Ord.cmp l.kv (option_copied l.at)
