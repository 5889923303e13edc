use Rattle.std.proofs.Common.{nat_eq}
use Rattle.std.proofs.lemmas.Bool.{or_left, eq-eqb}
use Rattle.wtf_kv.specs.Stores.{is_pinned}
use Rattle.wtf_gc_rows.proofs.Readying.{pinned}
use Rattle.wtf_gc_rows.proofs.scans.pin.Goals as goal

pub returns : goal.returns
returns c =
    let kv = c.args.kv.now in
    let n = c.number-n.result in
    pinned c.args.dev.now kv c.pin.new.self c.args.gc.now n _ c.in_ok-pin.ensures.ok c.in_ok-pin.ensures.once
    (or_left (nat_eq n kv.number) (is_pinned kv n) (eq-eqb n kv.number c.number-n.ensures.number)) c.requires
