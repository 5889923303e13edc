use Rattle.wtf_gc.proofs.Pins.{ListsUpto, IsDue, left_pins}
use Rattle.wtf_gc.proofs.pinning.live_numbers.Given as goal

pub record Walking (upto due : Type 0) : Type 0 where
  pub so_far : upto
  pub next : due

abbrev pub invariant-loop-at : goal.invariant-loop-at
invariant-loop-at l = Walking (ListsUpto l.kv l.at l.numbers.items) (IsDue l.kv l.at)

abbrev pub decreases-loop-at : goal.decreases-loop-at
decreases-loop-at l = left_pins l.kv l.at
