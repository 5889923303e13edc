use Rattle.std.proofs.Common.{◌≡◌, length, map}
use Rattle.std.specs.List.{filter}
use Rattle.wtf_model.specs.Tree.{is_in, paths_in}
use Rattle.wtf_machine.proofs.path_map.PathMap.is_empty_in.Given as goal

-- no path so far stands in the directory, so those that do are among the others
abbrev pub invariant-loop-path : goal.invariant-loop-path
invariant-loop-path l = filter (is_in l.dir) (map (λ e. e.0) l.rest) ≡ paths_in l.self l.dir

abbrev pub decreases-loop-path : goal.decreases-loop-path
decreases-loop-path l = length l.rest
