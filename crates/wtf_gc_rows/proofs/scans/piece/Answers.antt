use Rattle.wtf_gc_rows.proofs.Readying.{pieced}
use Rattle.wtf_gc_rows.proofs.scans.piece.Goals as goal

pub returns : goal.returns
returns c =
    let did = c.in_ok-left.ensures in
    pieced c.args.dev.now c.scan_piece.new.dev c.args.kv.now c.scan_piece.new.kv c.args.gc.now c.scan_piece.new.self c.args.parts c.in_ok-left.left c.requires
    did.dev did.prunes did.does
