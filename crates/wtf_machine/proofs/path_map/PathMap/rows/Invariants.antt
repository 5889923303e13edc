use Rattle.std.proofs.Common.{◌≡◌, ◌++◌, length, map}
use Rattle.wtf_model.specs.Tree.{shown_row, rows_of}
use Rattle.wtf_machine.specs.Maps.{node_of}
use Rattle.wtf_machine.proofs.OrderedLaws.{seen}
use Rattle.wtf_machine.proofs.path_map.PathMap.rows.Given as goal

-- the rows so far and those of what is left are those of the tree
abbrev pub invariant-loop-path : goal.invariant-loop-path
invariant-loop-path l = l.rows.items ++ map shown_row (seen node_of l.rest) ≡ rows_of l.self

abbrev pub decreases-loop-path : goal.decreases-loop-path
decreases-loop-path l = length l.rest
