use Rattle.std.proofs.Common.{◌∷◌, [], refl, ap, ◌∙◌}
use Rattle.std.specs.FinMap.{remove}
use Rattle.wtf_model.specs.Tree.{Tree}
use Rattle.wtf_model.specs.Done.{take_all}
use Rattle.wtf_machine.proofs.OrderedLaws.{all-left, last-left}
use Rattle.wtf_machine.proofs.path_map.PathMap.take_each.Goals as goal

pub loop-path-init : goal.loop-path-init
unfolding take_all
loop-path-init c = ([], all-left _ _ _ c.args.paths.now c.iter-rest.ensures.rest c.paths.view_is c.iter-rest.ensures.ordered refl, refl)

pub loop-path-preserved : goal.loop-path-preserved
unfolding take_all
loop-path-preserved c =
    let (done, lists, is) = c.loop-path.invariant in
    (c.in-Some.path.now ∷ done, last-left _ _ _ _ _ done lists c.in-Some.ensures.steps, c.take.ensures ∙ ap (λ (t : Tree). remove t c.in-Some.path.now) is)
