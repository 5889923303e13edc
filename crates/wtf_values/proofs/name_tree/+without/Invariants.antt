use Rattle.std.proofs.Common.{length}
use Rattle.wtf_values.specs.Trees.{listed}
use Rattle.wtf_values.proofs.name_tree.+without.Given as goal

abbrev pub decreases-without : goal.decreases-without
decreases-without l = length (listed l.tree.now)
