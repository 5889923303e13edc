use Rattle.std.proofs.Common.{refl, sym}
use Rattle.wtf_model.specs.Lawful.{MayCall}
use Rattle.wtf_model.specs.Machines.{Machine}
use Rattle.wtf_machine.specs.Verdicts.{RunsWith}
use Rattle.wtf_machine.specs.Kept.{clients_in, Decides, called_in}
use Rattle.wtf_machine.specs.Machines.{machine_in}
use Rattle.wtf_machine.proofs.MachineWays.{for_one, decided_all, called_is}
use Rattle.wtf_machine.proofs.machine.Machine.call.Goals as goal

pub returns-clause-decides : goal.returns-clause-decides
returns-clause-decides c = λ t there.
    let k = c.args.self.now in
    let m = machine_in k in
    let o = c.args.op.now in
    let a = c.args.answer.now in
    let ts = clients_in k.clients in
    decided_all c.call.result _ m _ (called_in ts c.args.c t o a) (clients_in c.call.new.self) (called_is m c.args.c t o a)
    (for_one c.call.result (RunsWith k.clients.cap k.settings.servers)
    (λ (x : Machine). Decides (MayCall x t o a) ts (called_in ts c.args.c t o a) (clients_in c.call.new.self)) m (sym k.cap_is, refl)
    (c.call.ensures.decides t there))
