use Rattle.std.proofs.Common.{sym, subst}
use Rattle.wtf_kv.specs.Seen.{ascends}
use Rattle.wtf_kv.proofs.Prune.{ascends-upto}
use Rattle.wtf_kv.proofs.cells.prune_all.Goals as goal

pub prune_cells-requires-clause-order : goal.prune_cells-requires-clause-order
prune_cells-requires-clause-order g c = λ q. subst ascends (sym (c.clear_cells.ensures.versions q)) (ascends-upto c.args.number _ (c.requires.good q).0)
