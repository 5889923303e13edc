use Rattle.std.proofs.Common.{◌∙◌}
use Rattle.wtf_kv.specs.Stores.{listed}
use Rattle.wtf_kv.proofs.Next.{upto-all}
use Rattle.wtf_kv.proofs.StoreLemmas.{installed_sound}
use Rattle.wtf_kv.proofs.history.History.install.Goals as goal

pub invariant_of-self : goal.invariant_of-self
invariant_of-self g c = installed_sound g.K.Ord.cmp c.self.inside.number c.self.inside.fresh c.self.inside.recent c.self.inside.touched.items (listed c.self.inside.cells.entries) c.self.invariant _ (c.len-self-inside.ensures ∙ c.self.inside.touched.ok.0)

pub returns-clause-versions : goal.returns-clause-versions
returns-clause-versions g c = rw (← c.self.view_is) (λ q. upto-all _ _ (c.self.invariant.good q).1)
