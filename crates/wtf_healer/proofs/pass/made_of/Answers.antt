use Rattle.wtf_healer.proofs.Stopping.{fault_only, passed_only, make_stop, was_made}
use Rattle.wtf_healer.proofs.pass.made_of.Goals as goal

pub returns-in-Err-clause-stopped : goal.returns-in-Err-clause-stopped
returns-in-Err-clause-stopped g c =
    make_stop g.S.SliceStore.kind c.args.replicas.now c.args.loaded.now c.args.shelf.now c.heal_loaded.new.shelf c.in-Err.why c.unhealed.result
    c.unhealed.ensures.memory c.unhealed.ensures.other c.in-Err.ensures.fault

pub returns-in-Err-clause-only : goal.returns-in-Err-clause-only
returns-in-Err-clause-only g c =
    fault_only g.met.S.SliceStore.laws c.args.replicas.now c.args.loaded.now c.args.shelf.now c.heal_loaded.new.shelf c.in-Err.why c.in-Err.ensures.fault

pub returns-in-Ok-kept_of-clause-made : goal.returns-in-Ok-kept_of-clause-made
returns-in-Ok-kept_of-clause-made g c =
    let kept = c.in-Ok-kept_of.ensures in
    was_made g.S.SliceStore.kind c.args.replicas.now c.args.loaded.now c.kept_of.new.loaded c.args.shelf.now c.heal_loaded.new.shelf c.in-Ok.healed
    c.in-Ok-kept_of.kept.image.items c.in-Ok-kept_of.kept.lines.items c.in-Ok.ensures.healed kept.put kept.settings kept.next_tx kept.image kept.kept kept.lines

pub returns-in-Ok-kept_of-clause-only : goal.returns-in-Ok-kept_of-clause-only
returns-in-Ok-kept_of-clause-only g c =
    passed_only g.S.SliceStore.kind c.args.replicas.now c.args.loaded.now.settings c.args.shelf.now c.heal_loaded.new.shelf c.in-Ok.ensures.healed

pub returns-in-Err-kept_of-clause-only : goal.returns-in-Err-kept_of-clause-only
returns-in-Err-kept_of-clause-only g c =
    passed_only g.S.SliceStore.kind c.args.replicas.now c.args.loaded.now.settings c.args.shelf.now c.heal_loaded.new.shelf c.in-Ok.ensures.healed
