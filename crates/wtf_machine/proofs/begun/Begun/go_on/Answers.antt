use Rattle.std.proofs.Common.{sym, subst, ◌∙◌}
use Rattle.wtf_model.specs.declared.answer.Answer.TheVariants.{Replayed}
use Rattle.wtf_model.specs.Transaction.{Transaction}
use Rattle.wtf_model.specs.Lawful.{MayStep}
use Rattle.wtf_machine.specs.Verdicts.{transaction_in, IsVerdict}
use Rattle.wtf_machine.proofs.begun.Begun.go_on.Goals as goal

pub returns-clause-verdict : goal.returns-clause-verdict
returns-clause-verdict c m most =
    subst (λ (t : Transaction). IsVerdict (MayStep m t (Replayed c.args.number)) t (transaction_in c.step_on-verdict.new.self)
    (Replayed c.args.number) c.step_on-verdict.result)
    c.in_ok-session.ensures.stays (c.step_on-verdict.ensures.verdict m (most ∙ sym c.in_ok-session.ensures.cap))
