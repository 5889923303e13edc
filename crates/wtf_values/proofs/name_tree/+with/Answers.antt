use Rattle.std.proofs.Common.{◌≡◌, ◌+◌, ◌-◌, ◌++◌, ◌∷◌, Option, suc, length, IfOk, ap, sym, subst, ◌∙◌, arith}
use Rattle.std.specs.List.{insert}
use Rattle.std.specs.declared.alloc.Global.{Global}
use Rattle.std.specs.declared.rc.Rc.{Rc}
use Rattle.wtf_values.specs.declared.name_tree.Node.{Node}
use Rattle.wtf_values.specs.Trees.{listed}
use Rattle.wtf_values.proofs.TreeLaws.{made, insert_after}
use Rattle.wtf_values.proofs.name_tree.+with.Goals as goal

pub returns-in_ok-share-4 : goal.returns-in_ok-share-4
returns-in_ok-share-4 t c =
    let n = c.node.inside in
    let l = listed n.before in
    let r = listed n.after in
    let all : listed c.args.tree.now ≡ l ++ n.name ∷ r = ap listed c.in-Some.is ∙ sym c.as_ref-node.ensures ∙ sym c.node.view_is in
    let at = c.args.at in
    let k = at - c.count-before.result - 1 in
    let e : at ≡ length l + suc k = omega arith in
    let parts = made c.in_ok-share-3.ensures c.in_ok-share-4.ensures c.in_ok-more-2.ensures in
    subst (λ m. IfOk c.balance-else-at-before.result (λ (new : Option (Rc Node Global)). listed new ≡ m))
    (parts ∙ sym (insert_after l n.name r at k c.args.name e) ∙ ap (λ m. insert m at c.args.name) (sym all)) c.balance-else-at-before.ensures
