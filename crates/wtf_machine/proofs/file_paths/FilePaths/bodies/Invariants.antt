use Rattle.std.proofs.Common.{◌≡◌, ◌++◌, length, map}
use Rattle.wtf_model.specs.declared.item.Item.TheVariants.{BodyOf}
use Rattle.wtf_model.specs.Tree.{path_list}
use Rattle.wtf_machine.proofs.file_paths.FilePaths.bodies.Given as goal

-- the items so far and those of the paths that are left are those of all paths
abbrev pub invariant-loop-path : goal.invariant-loop-path
invariant-loop-path l = l.bodies.items ++ map (λ e. BodyOf e.0) l.rest ≡ map (λ q. BodyOf q) (path_list l.self)

abbrev pub decreases-loop-path : goal.decreases-loop-path
decreases-loop-path l = length l.rest
