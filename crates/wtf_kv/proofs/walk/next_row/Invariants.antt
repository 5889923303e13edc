use Rattle.std.proofs.Common.{◌≡◌, length}
use Rattle.std.specs.List.{AllByRecursion}
use Rattle.wtf_kv.specs.Seen.{ascends}
use Rattle.wtf_kv.specs.Stores.{listed}
use Rattle.wtf_kv.specs.Walks.{rows_seen}
use Rattle.wtf_kv.proofs.walk.next_row.Given as goal

abbrev pub invariant-loop-key : goal.invariant-loop-key
invariant-loop-key g l = record {
  order : AllByRecursion (λ e. ascends e.1.items) l.left;
  rows : rows_seen l.number (listed l.left) ≡ rows_seen l.number (listed l.fn.left);
}

abbrev pub decreases-loop-key : goal.decreases-loop-key
decreases-loop-key g l = length l.left
