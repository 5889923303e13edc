use Rattle.std.proofs.Common.{Bool, List, refl, sym, subst}
use Rattle.wtf_base.specs.declared.settings.Settings.{Settings}
use Rattle.wtf_dev.specs.Memory.{mem_store}
use Rattle.wtf_overlay.specs.Origin.{Place}
use Rattle.wtf_meta.specs.Maps.{seen}
use Rattle.wtf_region.specs.Devs.{stores}
use Rattle.wtf_region.specs.Inside.{is_inside}
use Rattle.wtf_rw.specs.Ops.{AreInside}
use Rattle.wtf_files_rows.proofs.steps.rw_came.Goals as goal

-- fresh data names no byte, and the settings stay
pub returns-clause-inside : goal.returns-clause-inside
returns-clause-inside c =
    let P : List Place → Bool = is_inside mem_store (stores c.args.dev.now) c.args.dev.now.settings in
    let came = c.call-came.ensures.inside (c.if-not-is_fresh.ensures.whole refl) (c.if-not-is_fresh.ensures.bytes refl P) c.requires.inside.1 in
    subst (λ (x : Settings). AreInside mem_store (stores c.call-came.new.dev) x (seen c.args.kv.now c.call-came.new.at) c.call-came.new.s)
    (sym c.call-came.ensures.call.dev.settings) came
