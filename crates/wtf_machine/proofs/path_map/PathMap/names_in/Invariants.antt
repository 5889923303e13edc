use Rattle.std.proofs.Common.{◌≡◌, ◌++◌, length, map}
use Rattle.std.specs.List.{filter}
use Rattle.wtf_path.specs.Parts.{name_of}
use Rattle.wtf_model.specs.Tree.{is_in, names_in}
use Rattle.wtf_machine.proofs.path_map.PathMap.names_in.Given as goal

-- the names so far and those of what is left are those of the directory
abbrev pub invariant-loop-path : goal.invariant-loop-path
invariant-loop-path l = l.names.items ++ map name_of (filter (is_in l.dir) (map (λ e. e.0) l.rest)) ≡ names_in l.self l.dir

abbrev pub decreases-loop-path : goal.decreases-loop-path
decreases-loop-path l = length l.rest
