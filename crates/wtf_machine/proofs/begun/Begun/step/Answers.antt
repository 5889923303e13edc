use Rattle.std.proofs.Common.{sym, subst}
use Rattle.std.proofs.lemmas.Result.{IfOk-weaker}
use Rattle.wtf_model.specs.declared.answer.Answer.{Answer}
use Rattle.wtf_model.specs.Lawful.{MayStep}
use Rattle.wtf_machine.specs.Verdicts.{transaction_in, IsVerdict}
use Rattle.wtf_machine.proofs.begun.Begun.step.Goals as goal

pub returns-in-Replayed-clause-verdict : goal.returns-in-Replayed-clause-verdict
returns-in-Replayed-clause-verdict c =
    let old = transaction_in c.args.self.now in
    IfOk-weaker c.go_on.result _ _
    (λ v is m runs. subst (λ (a : Answer). IsVerdict (MayStep m old a) old (transaction_in c.go_on.new.self) a v) (sym c.in-Replayed.is) (is m runs.0))
    c.go_on.ensures.verdict
