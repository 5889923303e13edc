use Rattle.std.proofs.Common.{sym, subst}
use Rattle.wtf_kv.specs.Seen.{ascends}
use Rattle.wtf_kv.proofs.Prune.{ascends-upto}
use Rattle.wtf_kv.proofs.history.History.versions.Goals as goal

pub returns-clause-order : goal.returns-clause-order
returns-clause-order g c = subst ascends (sym c.shown_in.ensures) (ascends-upto c.self.inside.number _ (c.self.invariant.good c.args.key.now).0)
