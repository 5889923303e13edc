use Rattle.std.proofs.Common.{refl, rules}
use Rattle.wtf_meta.specs.Maps.{metadata_at}
use Rattle.wtf_healer.specs.Regions.{AreHealed, IsHealFault}
use Rattle.wtf_healer.proofs.Passes.{passed}
use Rattle.wtf_healer.proofs.pass.heal_over.Goals as goal

pub heal_all-requires-clause-can : goal.heal_all-requires-clause-can
heal_all-requires-clause-can g c = c.requires.can _ (record { stores_are = refl; replicas_are = refl; settings_are = refl })

pub returns-in-Ok-clause-healed : goal.returns-in-Ok-clause-healed
returns-in-Ok-clause-healed g c =
    let kind = g.S.SliceStore.kind in
    let kv = c.args.loaded.now.kv in
    let did = c.in-Ok.ensures in
    passed {Did = λ before after. AreHealed kind before after (metadata_at kv kv.number) c.in-Ok.healed} kind c.args.replicas.now
    c.args.loaded.now.settings (search (rules)) refl refl did.stores did.dev did.healed

pub returns-in-Err-clause-fault : goal.returns-in-Err-clause-fault
returns-in-Err-clause-fault g c =
    let kind = g.S.SliceStore.kind in
    let kv = c.args.loaded.now.kv in
    let did = c.in-Err.ensures in
    passed {Did = λ before after. IsHealFault kind before after (metadata_at kv kv.number) c.in-Err.why} kind c.args.replicas.now
    c.args.loaded.now.settings (search (rules)) refl refl did.stores did.dev did.fault
