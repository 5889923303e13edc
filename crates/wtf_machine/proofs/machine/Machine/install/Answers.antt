use Rattle.std.proofs.Common.{◌+◌, ◌∙◌}
use Rattle.wtf_machine.specs.Kept.{clients_in, jobs_in}
use Rattle.wtf_machine.specs.Machines.{machine_in}
use Rattle.wtf_machine.proofs.MachineWays.{touching_so}
use Rattle.wtf_machine.proofs.machine.Machine.install.Goals as goal

pub returns-clause-installed : goal.returns-clause-installed
returns-clause-installed c =
    let k = c.args.self.now in
    touching_so (machine_in k) (k.number + 1) c.args.c c.args.tree c.args.items.items c.in_ok-copy.copy.items
    (clients_in c.touch.new.self) (clients_in c.make_room.new.self) (jobs_in c.touch-2.new.self) (jobs_in c.make_room-2.new.self)
    (rw c.end.ensures.gone at c.touch.ensures.is) c.make_room.ensures.stays c.touch-2.ensures c.make_room-2.ensures.stays
    (c.in_ok-copy.ensures ∙ c.as_slice.ensures.value)
