use Rattle.std.proofs.Common.{◌≡◌, length}
use Rattle.std.specs.FinMap.{get}
use Rattle.std.specs.FinMap.Entries.{find}
use Rattle.std.specs.Ordering.{nat_cmp}
use Rattle.std.specs.Cmp.Lexicographic.{slice_cmp}
use Rattle.wtf_machine.specs.Maps.{node_of}
use Rattle.wtf_machine.proofs.OrderedLaws.{seen}
use Rattle.wtf_machine.proofs.path_map.PathMap.has_folder.Given as goal

-- the path is none of those so far, so the others have what stands there
abbrev pub invariant-loop-at : goal.invariant-loop-at
invariant-loop-at l = find (slice_cmp nat_cmp) l.path (seen node_of l.rest) ≡ get l.self l.path

abbrev pub decreases-loop-at : goal.decreases-loop-at
decreases-loop-at l = length l.rest
