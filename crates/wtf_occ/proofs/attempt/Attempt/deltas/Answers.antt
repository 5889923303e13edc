use Rattle.std.proofs.Common.{map}
use Rattle.wtf_kv.specs.declared.changes.Change.TheVariants.{Delta}
use Rattle.wtf_occ.proofs.Growing.{grows_or_not}
use Rattle.wtf_occ.proofs.attempt.Attempt.deltas.Goals as goal

pub returns-clause-grows : goal.returns-clause-grows
returns-clause-grows g c =
    grows_or_not c.args.self.now _ _ (map (Delta c.args.key.now) c.args.ds.items) c.deltas.result c.self.view_is c.deltas.ensures.ok c.deltas.ensures.err
