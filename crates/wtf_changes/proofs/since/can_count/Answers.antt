use Rattle.std.proofs.Common.{arith}
use Rattle.wtf_changes.proofs.Counting.{few_keys}
use Rattle.wtf_changes.proofs.since.can_count.Goals as goal

pub returns : goal.returns
returns c = few_keys c.args.kv.now c.most_rows.result (c.most_rows.ensures c.args.kv.now.number (omega arith)) c.if-most_rows.false
