use Rattle.std.proofs.Common.{ap, ◌∙◌}
use Rattle.std.specs.FinMap.{remove}
use Rattle.wtf_model.specs.Tree.{Tree}
use Rattle.wtf_machine.proofs.MapLaws.{tree_of-take}
use Rattle.wtf_machine.proofs.path_map.PathMap.take.Goals as goal

pub returns : goal.returns
returns c = tree_of-take _ _ c.args.path.now c.remove.ensures.updates.0 ∙ ap (λ (t : Tree). remove t c.args.path.now) c.self.view_is
