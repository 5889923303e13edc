use Rattle.wtf_model.specs.Lawful.{May}
use Rattle.wtf_model.specs.Steps.{after}
use Rattle.wtf_machine.specs.Machines.{machine_in}
use Rattle.wtf_machine.proofs.MachineWays.{lawful_of, next_of, stays_of}
use Rattle.wtf_machine.proofs.machine.Machine.step.Goals as goal

pub returns-clause-lawful : goal.returns-clause-lawful
returns-clause-lawful c =
    let m = machine_in c.args.self.now in
    let e = c.args.event.now in
    let a = c.args.answer.now in
    lawful_of c.line.result (May m e a) m (after m e a) (machine_in c.line.new.self) c.line.ensures.decides

pub returns-clause-next : goal.returns-clause-next
returns-clause-next c =
    let m = machine_in c.args.self.now in
    let e = c.args.event.now in
    let a = c.args.answer.now in
    next_of c.line.result (May m e a) m (after m e a) (machine_in c.line.new.self) c.line.ensures.decides

pub returns-clause-stays : goal.returns-clause-stays
returns-clause-stays c =
    let m = machine_in c.args.self.now in
    let e = c.args.event.now in
    let a = c.args.answer.now in
    stays_of c.line.result (May m e a) m (after m e a) (machine_in c.line.new.self) c.line.ensures.decides

pub returns-clause-err : goal.returns-clause-err
returns-clause-err c = c.line.ensures.err
