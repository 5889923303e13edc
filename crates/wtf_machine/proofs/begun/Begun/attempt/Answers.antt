use Rattle.std.proofs.Common.{sym, subst}
use Rattle.std.proofs.lemmas.Result.{IfOk-weaker}
use Rattle.wtf_model.specs.declared.answer.Answer.{Answer}
use Rattle.wtf_model.specs.Lawful.{MayTry}
use Rattle.wtf_machine.specs.Verdicts.{seen_in, IsFate}
use Rattle.wtf_machine.proofs.begun.Begun.attempt.Goals as goal

pub returns-in-Committed : goal.returns-in-Committed
returns-in-Committed c =
    let t = seen_in c.args.touched.now c.args.self.now in
    IfOk-weaker c.install.result _ _
    (λ f comes m cap number now. subst (λ (a : Answer). IsFate (MayTry m t a) m t a f) (sym c.in-Committed.is) (comes m c.args.touched.now cap number now))
    c.install.ensures

pub returns-in-Retry : goal.returns-in-Retry
returns-in-Retry c =
    let t = seen_in c.args.touched.now c.args.self.now in
    IfOk-weaker c.retry.result _ _
    (λ f comes m cap number now. subst (λ (a : Answer). IsFate (MayTry m t a) m t a f) (sym c.in-Retry.is) (comes m cap number))
    c.retry.ensures
