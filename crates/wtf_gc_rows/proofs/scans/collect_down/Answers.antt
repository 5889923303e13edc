use Rattle.std.proofs.Common.{refl, sym, ap, ◌∙◌}
use Rattle.std.proofs.lemmas.Result.{on_ok_weaker}
use Rattle.wtf_gc_rows.specs.Ready.{IsGcReady}
use Rattle.wtf_gc_rows.proofs.Readying.{other_servers}
use Rattle.wtf_gc_rows.proofs.scans.collect_down.Goals as goal

pub collect-requires : goal.collect-requires
collect-requires c =
    other_servers c.args.dev.now _ c.args.kv.now c.args.gc.now refl refl refl refl (c.down.ensures.settings ∙ c.requires.sound.replicas) c.requires

pub shape_of-dev : goal.shape_of-dev
shape_of-dev c = sym c.collect.ensures.lent.cache

pub shape_of-dev-2 : goal.shape_of-dev-2
shape_of-dev-2 c = sym c.collect.ensures.lent.shelf

pub returns : goal.returns
returns c =
    let lent = c.collect.ensures.lent in
    on_ok_weaker c.collect.result
    (λ (ready : IsGcReady c.collect.new.dev c.args.kv.now c.collect.new.gc). other_servers c.collect.new.dev _ c.args.kv.now c.collect.new.gc refl refl
    (sym (ap (λ r. r.now) lent.ring)) (sym lent.settings) c.requires.sound.replicas ready)
    c.collect.ensures.ready
