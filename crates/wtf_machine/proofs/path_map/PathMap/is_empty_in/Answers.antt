use Rattle.wtf_machine.proofs.OrderedLaws.{paths-tree}
use Rattle.wtf_machine.proofs.path_map.PathMap.is_empty_in.Goals as goal

pub loop-path-init : goal.loop-path-init
loop-path-init c = paths-tree _ _ _ c.iter-rest.ensures.rest c.self.view_is c.iter-rest.ensures.ordered c.args.dir.now
