use Rattle.std.proofs.Common.{ap, ◌∙◌}
use Rattle.std.proofs.lemmas.Result.{IfOk-weaker}
use Rattle.wtf_model.specs.Transaction.{session_after}
use Rattle.wtf_machine.proofs.LogLaws.{ops_of-first}
use Rattle.wtf_machine.proofs.begun.Begun.anew.Goals as goal

pub returns : goal.returns
returns c =
    IfOk-weaker c.rerun.result _ _
    (λ w left. left ∙ ap (session_after c.args.self.now.cap c.args.self.now.tree)
    (ops_of-first c.deref.result.now c.args.self.now.calls.items c.args.self.now.replayed c.deref.ensures.value))
    c.rerun.ensures
