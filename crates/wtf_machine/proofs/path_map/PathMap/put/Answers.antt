use Rattle.std.proofs.Common.{ap, ◌∙◌}
use Rattle.std.specs.FinMap.{insert}
use Rattle.wtf_model.specs.Tree.{Tree}
use Rattle.wtf_machine.specs.Maps.{node_of}
use Rattle.wtf_machine.proofs.MapLaws.{tree_of-put}
use Rattle.wtf_machine.proofs.path_map.PathMap.put.Goals as goal

pub returns-in-Ok-clause-ok : goal.returns-in-Ok-clause-ok
returns-in-Ok-clause-ok c = tree_of-put _ _ c.args.path c.args.node c.in-Ok.ensures.updates.0
    ∙ ap (λ (t : Tree). insert t c.args.path (node_of c.args.node)) c.self.view_is
