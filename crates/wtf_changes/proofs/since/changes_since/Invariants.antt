use Rattle.std.specs.Option.{option_copied}
use Rattle.wtf_kv.specs.Order.{left_from}
use Rattle.wtf_values.specs.Keys.{key_cmp}
use Rattle.wtf_changes.specs.Rows.{change_rows}
use Rattle.wtf_changes.proofs.Walking.{WalkedWith}
use Rattle.wtf_changes.proofs.since.changes_since.Given as goal

abbrev pub invariant-loop-at : goal.invariant-loop-at
invariant-loop-at l = WalkedWith l.kv l.since l.next_tx (option_copied l.at) (change_rows l.made)

abbrev pub decreases-loop-at : goal.decreases-loop-at
decreases-loop-at l = left_from key_cmp l.kv (option_copied l.at)
