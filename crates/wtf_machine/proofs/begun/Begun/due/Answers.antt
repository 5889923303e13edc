use Rattle.std.proofs.Common.{sym, ap, ◌∙◌}
use Rattle.std.proofs.lemmas.Result.{IfOk-weaker}
use Rattle.wtf_model.specs.Call.{call}
use Rattle.wtf_model.specs.Done.{Done}
use Rattle.wtf_model.specs.Session.{Session}
use Rattle.wtf_machine.proofs.BegunLaws.{warm_left}
use Rattle.wtf_machine.proofs.begun.Begun.due.Goals as goal

pub returns-in_default : goal.returns-in_default
returns-in_default c =
    IfOk-weaker c.call.result _ _
    (λ a is. sym (ap (λ (d : Done). d.answer) is) ∙ ap (λ (s : Session). (call c.args.self.now.cap s c.args.op.now).answer) c.in_ok-session.ensures)
    c.call.ensures

pub returns : goal.returns
returns c =
    IfOk-weaker c.due.result _ _
    (λ a is. is ∙ ap (λ (s : Session). (call c.args.self.now.cap s c.args.op.now).answer) (warm_left c.args.self.now c.in-Some.session c.in-Some.is))
    c.due.ensures
