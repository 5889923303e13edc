use Rattle.wtf_machine.proofs.OrderedLaws.{rows-tree}
use Rattle.wtf_machine.proofs.path_map.PathMap.rows.Goals as goal

pub loop-path-init : goal.loop-path-init
loop-path-init c = rows-tree _ _ _ c.iter-rest.ensures.rest c.self.view_is c.iter-rest.ensures.ordered _ c.new-rows.ensures.items
