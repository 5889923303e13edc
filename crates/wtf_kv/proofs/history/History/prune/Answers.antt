use Rattle.wtf_kv.specs.Stores.{listed}
use Rattle.std.proofs.Common.{◌∙◌}
use Rattle.wtf_kv.proofs.Prune.{ascends-upto}
use Rattle.wtf_kv.proofs.StoreLemmas.{pruned_sound, pruned_all}
use Rattle.wtf_kv.proofs.history.History.prune.Goals as goal

pub invariant_of-self : goal.invariant_of-self
invariant_of-self g c =
    let old = c.self.inside in
    pruned_sound g.K.Ord.cmp old.number old.fresh c.args.pins.now old.recent old.touched.items c.prune_all.new.touched.items (listed old.cells.entries) (listed c.prune_all.new.cells.entries) c.self.invariant c.prune_all.ensures.versions c.prune_all.ensures.loose _ (c.len-self-inside.ensures ∙ c.prune_all.new.touched.ok.0)

pub returns-clause-order : goal.returns-clause-order
returns-clause-order g c = rw (← c.self.view_is) (λ q. ascends-upto c.self.inside.number _ (c.self.invariant.good q).0)

pub returns-clause-kept : goal.returns-clause-kept
returns-clause-kept g c =
    let old = c.self.inside in
    rw (← c.self.view_is) (pruned_all g.K.Ord.cmp old.number old.fresh c.args.pins.now old.recent old.touched.items c.prune_all.new.touched.items (listed old.cells.entries) (listed c.prune_all.new.cells.entries) c.self.invariant c.prune_all.ensures.versions)
