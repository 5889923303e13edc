use Rattle.std.proofs.Common.{[], ◌∷◌}
use Rattle.wtf_kv.specs.declared.changes.Change.TheVariants.{Delta}
use Rattle.wtf_occ.proofs.Growing.{grows_or_not}
use Rattle.wtf_occ.proofs.attempt.Attempt.delta.Goals as goal

pub returns-clause-grows : goal.returns-clause-grows
returns-clause-grows g c = grows_or_not c.args.self.now _ _ (Delta c.args.key c.args.d ∷ []) c.delta.result c.self.view_is c.delta.ensures.ok c.delta.ensures.err
