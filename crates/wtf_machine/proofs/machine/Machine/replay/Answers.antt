use Rattle.std.proofs.Common.{refl, sym}
use Rattle.wtf_model.specs.Lawful.{MayStep}
use Rattle.wtf_model.specs.Machines.{Machine}
use Rattle.wtf_machine.specs.Verdicts.{RunsWith}
use Rattle.wtf_machine.specs.Kept.{clients_in, Decides, stepped_in}
use Rattle.wtf_machine.specs.Machines.{machine_in}
use Rattle.wtf_machine.proofs.MachineWays.{for_one, decided_all, stepped_is}
use Rattle.wtf_machine.proofs.machine.Machine.replay.Goals as goal

pub returns-clause-decides : goal.returns-clause-decides
returns-clause-decides c = λ t there.
    let k = c.args.self.now in
    let m = machine_in k in
    let a = c.args.answer.now in
    let ts = clients_in k.clients in
    decided_all c.step.result _ m _ (stepped_in ts c.args.c t a) (clients_in c.step.new.self) (stepped_is m c.args.c t a)
    (for_one c.step.result (RunsWith k.clients.cap k.settings.servers)
    (λ (x : Machine). Decides (MayStep x t a) ts (stepped_in ts c.args.c t a) (clients_in c.step.new.self)) m (sym k.cap_is, refl)
    (c.step.ensures.decides t there))
