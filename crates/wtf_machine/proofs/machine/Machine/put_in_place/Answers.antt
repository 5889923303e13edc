use Rattle.std.proofs.Common.{◌∙◌}
use Rattle.wtf_machine.specs.Kept.{clients_in, jobs_in}
use Rattle.wtf_machine.specs.Machines.{machine_in}
use Rattle.wtf_machine.proofs.MachineWays.{placing_so}
use Rattle.wtf_machine.proofs.machine.Machine.put_in_place.Goals as goal

pub returns-clause-put : goal.returns-clause-put
returns-clause-put c =
    let k = c.args.self.now in
    placing_so (machine_in k) c.args.number c.args.j c.in_ok-items.items.items c.in_ok-copy.copy.items
    (clients_in c.touch.new.self) (clients_in c.make_room.new.self) (jobs_in c.touch-2.new.self) (jobs_in c.make_room-2.new.self)
    c.touch.ensures.is c.make_room.ensures.stays (rw c.end.ensures.gone at c.touch-2.ensures) c.make_room-2.ensures.stays
    (c.in_ok-copy.ensures ∙ c.as_slice.ensures.value) c.in_ok-items.ensures
