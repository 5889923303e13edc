use Rattle.std.proofs.Common.{length}
use Rattle.wtf_values.specs.Trees.{listed}
use Rattle.wtf_values.proofs.name_tree.+with.Given as goal

abbrev pub decreases-with : goal.decreases-with
decreases-with l = length (listed l.tree.now)
