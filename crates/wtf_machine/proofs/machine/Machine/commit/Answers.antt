use Rattle.wtf_machine.specs.Machines.{machine_in}
use Rattle.wtf_machine.proofs.MachineWays.{decided_commit}
use Rattle.wtf_machine.proofs.machine.Machine.commit.Goals as goal

pub returns-clause-decides : goal.returns-clause-decides
returns-clause-decides c t there =
    decided_commit (machine_in c.args.self.now) c.args.c t c.settle.result c.args.answer.now c.in_ok-fate.fate (machine_in c.settle.new.self)
    (c.in_ok-fate.ensures t there) c.settle.ensures.lawful (c.settle.ensures.settled t there)

pub returns-clause-err : goal.returns-clause-err
returns-clause-err c = c.settle.ensures.err
