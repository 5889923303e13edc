use Rattle.std.proofs.Common.{◌≡◌, ◌++◌, length, map}
use Rattle.wtf_model.specs.declared.item.Item.TheVariants.{LinksOf}
use Rattle.wtf_model.specs.Tree.{path_list}
use Rattle.wtf_machine.proofs.file_paths.FilePaths.links.Given as goal

-- the items so far and those of the paths that are left are those of all paths
abbrev pub invariant-loop-path : goal.invariant-loop-path
invariant-loop-path l = l.links.items ++ map (λ e. LinksOf e.0) l.rest ≡ map (λ q. LinksOf q) (path_list l.self)

abbrev pub decreases-loop-path : goal.decreases-loop-path
decreases-loop-path l = length l.rest
