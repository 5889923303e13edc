use Rattle.wtf_core.proofs.Common.{option_copied, left_from, key_cmp}
use Rattle.wtf_core.proofs.RowsWalk.{Walked}
use Rattle.wtf_core.proofs.tree.rows_now.Given as goal

abbrev pub invariant-loop-at : goal.invariant-loop-at
invariant-loop-at l = Walked l.settings.region l.kv (option_copied l.at) l.rows.items

abbrev pub decreases-loop-at : goal.decreases-loop-at
decreases-loop-at l = left_from key_cmp l.kv (option_copied l.at)
