use Rattle.std.proofs.Common.{sym, subst}
use Rattle.std.proofs.lemmas.Result.{IfOk-weaker}
use Rattle.wtf_model.specs.declared.answer.Answer.{Answer}
use Rattle.wtf_model.specs.Lawful.{MayCommit}
use Rattle.wtf_machine.specs.Verdicts.{seen_in, IsFate}
use Rattle.wtf_machine.proofs.begun.Begun.commit.Goals as goal

pub returns-in-Committed : goal.returns-in-Committed
returns-in-Committed c =
    IfOk-weaker c.install.result _ _
    (λ f comes m items runs number now. subst (λ (a : Answer). IsFate (MayCommit m (seen_in items c.args.self.now) a) m (seen_in items c.args.self.now) a f)
    (sym c.in-Committed.is) (comes m items runs.0 number now))
    c.install.ensures
