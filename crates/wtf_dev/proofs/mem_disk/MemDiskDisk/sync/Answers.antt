use Rattle.std.proofs.Common.{◌≤◌, subst}
use Rattle.std.specs.Result.{is_err}
use Rattle.wtf_dev.specs.DiskTape.{DiskState, IsNoted}
use Rattle.wtf_dev.proofs.DiskTapes.{counted_faults, on_ok, settled_noted, syncs_noted}
use Rattle.wtf_dev.proofs.mem_disk.MemDiskDisk.sync.Goals as goal

noted : (c : goal.After-counted) → IsNoted c.is_due-due.result c.noted-room.result c.args.file c.args.self.now.noted c.noted-room.new.tape
noted c =
    subst (λ (d : DiskState). IsNoted c.is_due-due.result c.noted-room.result c.args.file d.noted c.noted-room.new.tape)
    c.self.view_is c.noted-room.ensures.noted

pub returns-clause-settled : goal.returns-clause-settled
returns-clause-settled c =
    on_ok c.counted.result c.is_due-due.result c.noted-room.result _ c.counted.ensures.failed_is
    (λ going room tells. settled_noted _ _ c.args.file c.is_due-due.result c.noted-room.result (noted c) going room)

pub returns-clause-kept : goal.returns-clause-kept
returns-clause-kept c =
    syncs_noted c.is_due-due.result c.noted-room.result (noted c)
    (subst (λ (d : DiskState). d.counts.faults ≤ c.counted.new.self.faults) c.self.view_is
    (counted_faults (is_err c.counted.result) _ _ c.counted.ensures.counted))
