use Rattle.std.proofs.Common.{◌≡◌, rules, false}
use Rattle.std.specs.Prelude.{is_some}
use Rattle.wtf_gc_rows.proofs.Readying.{unpinned}
use Rattle.wtf_gc_rows.proofs.scans.unpin.Goals as goal

pub returns : goal.returns
returns c =
    let none : is_some c.args.gc.now.running ≡ false = search rules in
    unpinned c.args.dev.now c.args.kv.now c.unpin.new.self c.args.gc.now c.args.n _ c.unpin.ensures.rest c.unpin.ensures.once none c.requires
