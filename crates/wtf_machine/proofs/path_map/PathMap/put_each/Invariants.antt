use Rattle.std.proofs.Common.{◌≡◌, ◌++◌, List, ℕ, length, map}
use Rattle.wtf_model.specs.Tree.{path_list}
use Rattle.wtf_model.specs.Done.{put_all}
use Rattle.wtf_machine.specs.Maps.{content_node}
use Rattle.wtf_machine.proofs.path_map.PathMap.put_each.Given as goal

-- what was reached from the back has the file already
abbrev pub invariant-loop-path : goal.invariant-loop-path
invariant-loop-path l = (done : List (List ℕ)) × (path_list l.paths ≡ map (λ e. e.0) l.rest ++ done) × (l.self ≡ put_all (content_node l.file) l.fn.self done)

abbrev pub decreases-loop-path : goal.decreases-loop-path
decreases-loop-path l = length l.rest
