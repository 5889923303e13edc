use Rattle.wtf_changes.specs.Rows.{change_rows}
use Rattle.wtf_changes.proofs.Walking.{changes_told}
use Rattle.wtf_changes.proofs.since.changes.Goals as goal

pub returns-clause-told : goal.returns-clause-told
returns-clause-told c = changes_told c.args.kv.now c.args.since c.args.next_tx
    (change_rows c.in_ok-changes.changes) c.in_ok-bytes.bytes.items c.in_ok-changes.ensures c.in_ok-bytes.ensures.text c.in_ok-bytes.ensures.wide
