use Rattle.wtf_machine.proofs.OrderedLaws.{names-tree}
use Rattle.wtf_machine.proofs.path_map.PathMap.names_in.Goals as goal

pub loop-path-init : goal.loop-path-init
loop-path-init c = names-tree _ _ _ c.iter-rest.ensures.rest c.self.view_is c.iter-rest.ensures.ordered c.args.dir.now _ c.new-names.ensures.items
