use Rattle.std.proofs.Common.{◌∙◌}
use Rattle.wtf_model.specs.declared.item.Item.TheVariants.{LinksOf}
use Rattle.wtf_machine.proofs.FileWays.{items-kept, items-none}
use Rattle.wtf_machine.proofs.path_map.PathMap.links_at.Goals as goal

pub returns-in_ok-links-in-Some : goal.returns-in_ok-links-in-Some
returns-in_ok-links-in-Some c = c.in_ok-links-in-Some.ensures
    ∙ items-kept (λ q. LinksOf q) c.args.self.now c.args.path.now _ _ _ c.deref.ensures c.in-Some.ensures.some

pub returns-in-None : goal.returns-in-None
returns-in-None c = c.new.ensures.items ∙ items-none (λ q. LinksOf q) c.args.self.now c.args.path.now c.in-None.ensures.none
