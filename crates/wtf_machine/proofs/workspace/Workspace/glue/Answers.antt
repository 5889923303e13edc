use Rattle.std.proofs.Common.{sym, ◌∙◌}
use Rattle.std.proofs.lemmas.Result.{IfOk-weaker}
use Rattle.wtf_model.proofs.SliceLaws.{glue-none, glue-unset}
use Rattle.wtf_machine.specs.Sessions.{session_in}
use Rattle.wtf_machine.proofs.SliceWays.{glue-by}
use Rattle.wtf_machine.proofs.workspace.Workspace.glue.Goals as goal

pub returns-in_default : goal.returns-in_default
returns-in_default c = glue-none c.args.cap (session_in c.args.self.now) c.args.f c.args.label (sym c.in_default.ensures)

pub returns-in_default-at : goal.returns-in_default-at
returns-in_default-at c = glue-unset c.args.cap (session_in c.args.self.now) c.args.f c.args.label _ (sym c.in-Some.ensures) (sym c.in_default-at.ensures)

pub returns : goal.returns
returns c =
    IfOk-weaker c.append.result _ _
    (λ a by. glue-by c.args.cap (session_in c.args.self.now) c.args.f c.args.label (sym c.in-Some.ensures) (sym c.in-Some-at.ensures)
    (c.as_slice.ensures.value ∙ c.in_ok-slice.ensures.cases) by)
    c.append.ensures
