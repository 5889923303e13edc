use Rattle.std.proofs.Common.{[], sym, subst}
use Rattle.wtf_base.specs.declared.settings.Settings.{Settings}
use Rattle.wtf_dev.specs.Memory.{mem_store}
use Rattle.wtf_region.specs.Devs.{stores}
use Rattle.wtf_region.specs.Inside.{IsOnServers}
use Rattle.wtf_region.proofs.InsideLaws.{slice_inside}
use Rattle.wtf_gc_rows.proofs.Readying.{goes}
use Rattle.wtf_gc_rows.proofs.scans.stored.Goals as goal

pub returns-clause-ready : goal.returns-clause-ready
returns-clause-ready c = goes c.args.dev.now c.store_bytes.new.dev [] c.args.kv.now c.args.gc.now c.store_bytes.ensures.dev c.requires

pub returns-clause-lies : goal.returns-clause-lies
returns-clause-lies c =
    let dev = c.store_bytes.new.dev in
    let s = c.in_ok-slice.slice in
    let made = c.in_ok-slice.ensures in
    slice_inside mem_store (stores dev) dev.settings s made.inside (subst (λ (x : Settings). IsOnServers x.servers s) (sym made.dev.settings) made.known)
