use Rattle.wtf_model.specs.declared.item.Item.TheVariants.{BodyOf}
use Rattle.wtf_machine.proofs.OrderedLaws.{items-set, items-more}
use Rattle.wtf_machine.proofs.file_paths.FilePaths.bodies.Goals as goal

pub loop-path-init : goal.loop-path-init
loop-path-init c = items-set (λ q. BodyOf q) _ _ _ _ c.iter-rest.ensures.rest c.self.view_is c.iter-rest.ensures.ordered c.new-bodies.ensures.items

pub loop-path-preserved : goal.loop-path-preserved
loop-path-preserved c =
    items-more (λ q. BodyOf q) c.loop-path.bodies.items _ c.loop-path.rest _ _ _ _ _ c.in-Some.ensures.steps
    c.in_ok-path.ensures c.in_ok-push.ensures.items c.loop-path.invariant
