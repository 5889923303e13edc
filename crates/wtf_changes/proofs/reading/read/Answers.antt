use Rattle.std.proofs.Common.{arith}
use Rattle.wtf_changes.proofs.Parsed.{are_changes, unread_by}
use Rattle.wtf_changes.proofs.reading.read.Goals as goal

pub returns-in-Ok-clause-changes : goal.returns-in-Ok-clause-changes
returns-in-Ok-clause-changes c = are_changes c.args.bytes.now c.in-Ok.changes (λ i. omega (arith, c.type_inv.bytes i)) c.in-Ok.ensures

pub returns-in-Err-clause-cause : goal.returns-in-Err-clause-cause
returns-in-Err-clause-cause c = unread_by c.args.bytes.now c.in-Err.why c.in-Err.ensures
