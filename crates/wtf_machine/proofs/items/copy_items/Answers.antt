use Rattle.std.proofs.Common.{List, ◌∷◌, [], ◌++◌, sym, ap₂, ◌∙◌}
use Rattle.std.proofs.lemmas.List.{take_more}
use Rattle.wtf_model.specs.declared.item.Item.{Item}
use Rattle.wtf_machine.proofs.items.copy_items.Goals as goal

pub loop-item-preserved : goal.loop-item-preserved
loop-item-preserved c =
    c.in_ok-push.ensures.items ∙ ap₂ (λ (l : List Item) (x : Item). l ++ x ∷ []) c.loop-item.invariant (c.in_ok-item.ensures ∙ c.item-item.is)
    ∙ sym (take_more c.args.items.now c.loop-item.item-index c.item-item.result c.loop-item-test.true)
