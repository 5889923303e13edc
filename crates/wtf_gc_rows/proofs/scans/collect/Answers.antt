use Rattle.wtf_gc_rows.proofs.Readying.{freed, goes, failed, on_lent, failed_lent}
use Rattle.wtf_gc_rows.proofs.scans.collect.Goals as goal

pub returns-in-Ok-clause-ready : goal.returns-in-Ok-clause-ready
returns-in-Ok-clause-ready c =
    let did = c.in-Ok.ensures.frees in
    freed c.collect.new.dev c.args.kv.now c.args.gc.now c.collect.new.self did.ranges did.counts
    (goes c.args.dev.now c.collect.new.dev did.ranges c.args.kv.now c.args.gc.now did.goes c.requires)

pub returns-in-Ok-clause-lent : goal.returns-in-Ok-clause-lent
returns-in-Ok-clause-lent c =
    let did = c.in-Ok.ensures.frees in
    on_lent c.args.dev.now c.collect.new.dev did.ranges did.goes

pub returns-in-Err-Punch-clause-ready : goal.returns-in-Err-Punch-clause-ready
returns-in-Err-Punch-clause-ready c =
    failed c.args.dev.now c.collect.new.dev c.args.kv.now c.args.gc.now c.collect.new.self c.args.k c.in-Err-Punch.field-0
    c.in-Err-Punch.ensures.fault c.requires

pub returns-in-Err-Punch-clause-lent : goal.returns-in-Err-Punch-clause-lent
returns-in-Err-Punch-clause-lent c =
    failed_lent c.args.dev.now c.collect.new.dev c.args.gc.now c.collect.new.self c.args.k c.in-Err-Punch.field-0 c.in-Err-Punch.ensures.fault

pub returns-in-Err-clause-lent : goal.returns-in-Err-clause-lent
returns-in-Err-clause-lent c = failed_lent c.args.dev.now c.collect.new.dev c.args.gc.now c.collect.new.self c.args.k c.in-Err.why c.in-Err.ensures.fault
