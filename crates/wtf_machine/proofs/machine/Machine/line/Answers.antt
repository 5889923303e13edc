use Rattle.std.proofs.Common.{refl}
use Rattle.wtf_machine.specs.Machines.{machine_in}
use Rattle.wtf_machine.proofs.MachineWays.{at_event, said_at_event, seen_at_event, all_seen_at_event, unless_err}
use Rattle.wtf_machine.proofs.machine.Machine.line.Goals as goal

pub returns-in-Client-clause-decides : goal.returns-in-Client-clause-decides
returns-in-Client-clause-decides c =
    at_event c.client.result (machine_in c.args.self.now) (machine_in c.client.new.self) _ _ c.args.answer.now c.in-Client.is c.client.ensures.decides

pub returns-in-Client-clause-err : goal.returns-in-Client-clause-err
returns-in-Client-clause-err c = c.client.ensures.err

pub returns-in-Down-clause-decides : goal.returns-in-Down-clause-decides
returns-in-Down-clause-decides c =
    at_event c.take_down.result (machine_in c.args.self.now) (machine_in c.take_down.new.self) _ _ c.args.answer.now c.in-Down.is c.take_down.ensures.decides

pub returns-in-Down-clause-err : goal.returns-in-Down-clause-err
returns-in-Down-clause-err c = c.take_down.ensures.err

pub returns-in-Up-clause-decides : goal.returns-in-Up-clause-decides
returns-in-Up-clause-decides c =
    said_at_event c.bring_up.result (machine_in c.args.self.now) (machine_in c.bring_up.new.self) _ _ c.args.answer.now c.in-Up.is c.bring_up.ensures

pub returns-in-Save-clause-decides : goal.returns-in-Save-clause-decides
returns-in-Save-clause-decides c =
    at_event c.save.result (machine_in c.args.self.now) (machine_in c.save.new.self) _ _ c.args.answer.now c.in-Save.is c.save.ensures.decides

pub returns-in-Save-clause-err : goal.returns-in-Save-clause-err
returns-in-Save-clause-err c = c.save.ensures.err

pub returns-in-Dump-clause-decides : goal.returns-in-Dump-clause-decides
returns-in-Dump-clause-decides c = seen_at_event c.may_dump.result (machine_in c.args.self.now) _ _ c.args.answer.now c.in-Dump.is refl c.may_dump.ensures

pub returns-in-Tree-clause-decides : goal.returns-in-Tree-clause-decides
returns-in-Tree-clause-decides c = all_seen_at_event c.may_show.result (machine_in c.args.self.now) _ _ c.args.answer.now c.in-Tree.is refl c.may_show.ensures

pub returns-in-Tree-clause-err : goal.returns-in-Tree-clause-err
returns-in-Tree-clause-err c = unless_err c.may_show.result _ refl

pub returns-in-Plan-clause-decides : goal.returns-in-Plan-clause-decides
returns-in-Plan-clause-decides c =
    at_event c.plan.result (machine_in c.args.self.now) (machine_in c.plan.new.self) _ _ c.args.answer.now c.in-Plan.is c.plan.ensures.decides

pub returns-in-Plan-clause-err : goal.returns-in-Plan-clause-err
returns-in-Plan-clause-err c = c.plan.ensures.err

pub returns-in-Put-clause-decides : goal.returns-in-Put-clause-decides
returns-in-Put-clause-decides c =
    at_event c.put.result (machine_in c.args.self.now) (machine_in c.put.new.self) _ _ c.args.answer.now c.in-Put.is c.put.ensures.decides

pub returns-in-Put-clause-err : goal.returns-in-Put-clause-err
returns-in-Put-clause-err c = c.put.ensures.err

pub returns-in-DropJob-clause-decides : goal.returns-in-DropJob-clause-decides
returns-in-DropJob-clause-decides c =
    said_at_event c.drop_job.result (machine_in c.args.self.now) (machine_in c.drop_job.new.self) _ _ c.args.answer.now c.in-DropJob.is c.drop_job.ensures

pub returns-in-Scan-clause-decides : goal.returns-in-Scan-clause-decides
returns-in-Scan-clause-decides c =
    at_event c.scan.result (machine_in c.args.self.now) (machine_in c.scan.new.self) _ _ c.args.answer.now c.in-Scan.is c.scan.ensures.decides

pub returns-in-Scan-clause-err : goal.returns-in-Scan-clause-err
returns-in-Scan-clause-err c = c.scan.ensures.err

pub returns-in-Piece-clause-decides : goal.returns-in-Piece-clause-decides
returns-in-Piece-clause-decides c =
    said_at_event c.piece.result (machine_in c.args.self.now) (machine_in c.piece.new.self) _ _ c.args.answer.now c.in-Piece.is c.piece.ensures

pub returns-in-Collect-clause-decides : goal.returns-in-Collect-clause-decides
returns-in-Collect-clause-decides c =
    seen_at_event c.may_collect.result (machine_in c.args.self.now) _ _ c.args.answer.now c.in-Collect.is refl c.may_collect.ensures
