use Rattle.std.proofs.Common.{sym, ap, ◌∙◌}
use Rattle.std.proofs.lemmas.Result.{IfOk-weaker}
use Rattle.wtf_model.specs.Session.{Session}
use Rattle.wtf_model.specs.Done.{Done}
use Rattle.wtf_model.specs.Call.{call}
use Rattle.wtf_machine.proofs.workspace.Workspace.due.Goals as goal

pub returns : goal.returns
returns c =
    IfOk-weaker c.call.result _ _
    (λ a is. sym (ap (λ (s : Session). (call c.args.cap s c.args.op.now).answer) (sym c.in_ok-tried.ensures) ∙ ap (λ (d : Done). d.answer) is))
    c.call.ensures
