use Rattle.std.proofs.Common.{take, refl}
use Rattle.std.proofs.lemmas.Result.{IfOk-weaker}
use Rattle.wtf_model.specs.Call.{call}
use Rattle.wtf_model.specs.Transaction.{session_after}
use Rattle.wtf_machine.specs.Logs.{ops_of}
use Rattle.wtf_machine.proofs.BegunLaws.{next-answers, due-called}
use Rattle.wtf_machine.proofs.begun.Begun.due_next.Goals as goal

pub returns : goal.returns
returns c =
    let k = c.args.self.now in
    let x = c.index.result.now in
    let s = session_after k.cap k.tree (take k.replayed (ops_of k.calls.items)) in
    IfOk-weaker c.due.result _ _
    (λ a is. next-answers k.cap k.tree k.calls.items k.replayed x s (call k.cap s x.op).session a c.requires.behind c.index.ensures refl
    (due-called k.cap s x.op a is))
    c.due.ensures
