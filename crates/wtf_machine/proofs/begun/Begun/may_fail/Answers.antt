use Rattle.std.proofs.Common.{take, refl}
use Rattle.wtf_model.specs.Call.{call}
use Rattle.wtf_model.specs.Transaction.{session_after}
use Rattle.wtf_machine.specs.Logs.{ops_of}
use Rattle.wtf_machine.specs.Verdicts.{transaction_in}
use Rattle.wtf_machine.proofs.BegunLaws.{all_ops, call-may, due-called}
use Rattle.wtf_machine.proofs.begun.Begun.may_fail.Goals as goal

pub returns : goal.returns
returns c m most =
    let k = c.args.self.now in
    let s = session_after k.cap k.tree (take k.replayed (ops_of k.calls.items)) in
    call-may k.cap (transaction_in k) c.args.op.now s (call k.cap s c.args.op.now).session c.in_ok-due.due
    (all_ops k.calls.items k.replayed c.requires.live) refl (due-called k.cap s c.args.op.now c.in_ok-due.due c.in_ok-due.ensures)
    c.args.answer.now c.args.servers c.may_fail-may.result c.may_fail-may.ensures m most
