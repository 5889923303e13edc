use Rattle.std.proofs.Common.{[], ◌∷◌}
use Rattle.wtf_kv.specs.declared.changes.Change.TheVariants.{Cut}
use Rattle.wtf_occ.proofs.Growing.{grows_or_not}
use Rattle.wtf_occ.proofs.attempt.Attempt.cut_range.Goals as goal

pub returns-clause-grows : goal.returns-clause-grows
returns-clause-grows g c = grows_or_not c.args.self.now _ _ (Cut c.args.from c.args.to ∷ []) c.cut_range.result c.self.view_is c.cut_range.ensures.ok c.cut_range.ensures.err
