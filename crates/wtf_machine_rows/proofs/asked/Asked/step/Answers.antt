use Rattle.std.proofs.Common.{arith}
use Rattle.wtf_machine.specs.Machines.{machine_in}
use Rattle.wtf_machine_rows.proofs.Counts.{stepped_so}
use Rattle.wtf_machine_rows.proofs.asked.Asked.step.Goals as goal

pub invariant_of-self-2 : goal.invariant_of-self-2
invariant_of-self-2 c =
    let s = c.args.self.now in
    let did = c.in_ok-lawful.ensures in
    let r = stepped_so (machine_in s.machine) (machine_in c.step.new.self) c.args.event.now c.args.answer.now c.in_ok-lawful.lawful did.lawful did.next did.stays in
    record { number = omega (arith, r.number, s.number); stamps = omega (arith, r.stamps, s.stamps); scans = omega (arith, r.scans, s.scans) }
