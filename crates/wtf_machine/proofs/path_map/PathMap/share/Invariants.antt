use Rattle.std.proofs.Common.{◌≡◌, ℕ, List, ◌++◌, length}
use Rattle.wtf_machine.specs.declared.path_map.PathNode.{PathNode}
use Rattle.wtf_machine.specs.Maps.{tree_of}
use Rattle.wtf_machine.proofs.path_map.PathMap.share.Given as goal

-- what was taken from the back is shared already
abbrev pub invariant-loop-path : goal.invariant-loop-path
invariant-loop-path l = (done : List (List ℕ × PathNode)) × (l.self-inside.nodes.entries ≡ l.rest ++ done) × (l.shared ≡ tree_of done)

abbrev pub decreases-loop-path : goal.decreases-loop-path
decreases-loop-path l = length l.rest
