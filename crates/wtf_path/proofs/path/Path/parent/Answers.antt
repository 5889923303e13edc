use Rattle.std.proofs.Common.{take, subst, ◌∙◌}
use Rattle.wtf_path.specs.Grammar.{IsPath}
use Rattle.wtf_path.proofs.LastName.{IsParent, parent-root, parent-before}
use Rattle.wtf_path.proofs.path.Path.parent.Goals as goal
use Rattle.wtf_path.proofs.path.Path.parent.Goals.{Then-is_empty, Else-is_empty}

root : (c : Then-is_empty) → IsParent c.args.self.now (take 1 c.as_slice-text.result.now)
root c =
    parent-root c.args.self.now c.as_slice-text.result.now c.around_last_slash.result.0.now c.around_last_slash.result.1.now c.is_empty.result
    (c.as_slice-text.ensures.value ∙ c.self.view_is) c.around_last_slash.ensures c.is_empty.ensures c.if-is_empty.true c.if-text-eq1.false

before : (c : Else-is_empty) → IsParent c.args.self.now c.around_last_slash.result.0.now
before c =
    parent-before c.args.self.now c.as_slice-text.result.now c.around_last_slash.result.0.now c.around_last_slash.result.1.now c.is_empty.result
    (c.as_slice-text.ensures.value ∙ c.self.view_is) c.around_last_slash.ensures c.is_empty.ensures c.if-is_empty.false
    (subst IsPath c.self.view_is c.self.invariant)

pub returns-then-is_empty-clause-value : goal.returns-then-is_empty-clause-value
returns-then-is_empty-clause-value c = (root c).value

pub returns-then-is_empty-clause-joined : goal.returns-then-is_empty-clause-joined
returns-then-is_empty-clause-joined c = (root c).joined

pub returns-else-is_empty-clause-value : goal.returns-else-is_empty-clause-value
returns-else-is_empty-clause-value c = (before c).value

pub returns-else-is_empty-clause-well_formed : goal.returns-else-is_empty-clause-well_formed
returns-else-is_empty-clause-well_formed c = (before c).well_formed

pub returns-else-is_empty-clause-joined : goal.returns-else-is_empty-clause-joined
returns-else-is_empty-clause-joined c = (before c).joined

pub returns-then-is_empty-clause-prefix : goal.returns-then-is_empty-clause-prefix
returns-then-is_empty-clause-prefix c = (root c).prefix

pub returns-else-is_empty-clause-prefix : goal.returns-else-is_empty-clause-prefix
returns-else-is_empty-clause-prefix c = (before c).prefix
