use Rattle.std.proofs.Common.{sym, ap, ◌∙◌}
use Rattle.std.specs.Option.{option_map}
use Rattle.std.specs.FinMap.{get}
use Rattle.wtf_model.specs.Tree.{Tree}
use Rattle.wtf_machine.specs.Maps.{node_of}
use Rattle.wtf_machine.proofs.MapLaws.{get-tree_of}
use Rattle.wtf_machine.proofs.path_map.PathMap.node.Goals as goal

pub returns : goal.returns
returns c = ap (option_map node_of) c.get.ensures.value ∙ sym (get-tree_of _ c.args.path.now) ∙ ap (λ (t : Tree). get t c.args.path.now) c.self.view_is
