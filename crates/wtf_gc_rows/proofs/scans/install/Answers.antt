use Rattle.std.proofs.Common.{◌≤◌, sym, subst}
use Rattle.wtf_meta.specs.Bytes.{EditsBytes, any_slice}
use Rattle.wtf_dev.specs.Memory.{mem_store}
use Rattle.wtf_region.specs.Devs.{inside_of}
use Rattle.wtf_gc_rows.proofs.Readying.{installed}
use Rattle.wtf_gc_rows.proofs.scans.install.Goals as goal

pub returns : goal.returns
returns c =
    let made = c.in-Ok.ensures in
    let did = c.install.ensures in
    installed c.args.dev.now c.args.kv.now c.reserve_install.new.self c.install.new.self c.args.gc.now c.in-Ok.ready.changes
    made.same.number made.same.pins made.maps
    did.pins did.map did.maps (λ p there. subst (λ n. p ≤ n) c.number.ensures.number (c.number.ensures.pins p there))
    (subst (EditsBytes (inside_of mem_store c.args.dev.now) any_slice) (sym made.changes) c.requires.lie) c.requires.ready
