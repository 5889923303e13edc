use Rattle.std.proofs.Common.{length}
use Rattle.wtf_values.specs.Trees.{listed}
use Rattle.wtf_values.proofs.name_tree.+place.Given as goal

abbrev pub decreases-place : goal.decreases-place
decreases-place l = length (listed l.tree.now)
