use Rattle.wtf_gc_rows.proofs.Readying.{begun}
use Rattle.wtf_gc_rows.proofs.scans.begin.Goals as goal

pub returns : goal.returns
returns c = begun c.args.dev.now c.args.kv.now c.scan_begin.new.kv c.args.gc.now c.scan_begin.new.self c.requires c.in_ok-scan_begin.ensures.starts
