use Rattle.std.proofs.Common.{◌↔◌, IsTrue, Some, sym, subst}
use Rattle.std.proofs.lemmas.Result.{IfOk-weaker}
use Rattle.wtf_model.specs.Jobs.{MayPut}
use Rattle.wtf_machine.specs.Kept.{planned_in}
use Rattle.wtf_machine.specs.Machines.{machine_in}
use Rattle.wtf_machine.proofs.machine.Machine.may_put.Goals as goal

pub returns-in-Stale : goal.returns-in-Stale
returns-in-Stale c =
    let m = machine_in c.args.self.now in
    let job = planned_in c.args.self.now.jobs.changed.items c.in-Some.job.now in
    IfOk-weaker c.is_stale.result _ _
    (λ yes says. subst (λ o. IsTrue yes ↔ MayPut m o c.args.answer.now) c.in-Some.ensures.value
    (subst (λ a. IsTrue yes ↔ MayPut m (Some job) a) (sym c.in-Stale.is) says))
    c.is_stale.ensures
