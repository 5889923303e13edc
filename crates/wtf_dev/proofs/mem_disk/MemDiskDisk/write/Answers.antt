use Rattle.std.proofs.Common.{◌≡◌, ◌≤◌, ◌∙◌, length, true, false, ap, subst}
use Rattle.std.specs.Result.{is_err}
use Rattle.wtf_dev.specs.Disk.{overwritten}
use Rattle.wtf_dev.specs.DiskTape.{DiskState, IsEntered, disk_file}
use Rattle.wtf_dev.specs.DiskTapeLaws.{length-overwritten}
use Rattle.wtf_dev.proofs.DiskTapes.{counted_faults, on_ok, seen_written, writes_entered, written_entered}
use Rattle.wtf_dev.proofs.mem_disk.MemDiskDisk.write.Goals as goal

entered : (c : goal.After-counted)
    → IsEntered c.is_due-due.result c.entered-room.result c.args.file c.args.at c.args.bytes.now c.args.self.now.noted c.entered-room.new.tape
entered c =
    subst
    (λ (d : DiskState). IsEntered c.is_due-due.result c.entered-room.result c.args.file c.args.at c.args.bytes.now d.noted c.entered-room.new.tape)
    c.self.view_is c.entered-room.ensures.entered

seen : (c : goal.After-counted) → c.is_due-due.result ≡ false → c.entered-room.result ≡ true
    → (disk_file c.entered-room.new.tape c.args.file).seen ≡ overwritten (disk_file c.args.self.now.noted c.args.file).seen c.args.at c.args.bytes.now
seen c going room =
    seen_written _ _ c.args.file c.args.at c.args.bytes.now
    (written_entered c.args.file c.args.at c.args.bytes.now _ _ c.is_due-due.result c.entered-room.result (entered c) going room)

pub returns-clause-noted : goal.returns-clause-noted
returns-clause-noted c =
    on_ok c.counted.result c.is_due-due.result c.entered-room.result _ c.counted.ensures.failed_is
    (λ going room. written_entered c.args.file c.args.at c.args.bytes.now _ _ c.is_due-due.result c.entered-room.result (entered c) going room)

pub returns-clause-written : goal.returns-clause-written
returns-clause-written c =
    on_ok c.counted.result c.is_due-due.result c.entered-room.result _ c.counted.ensures.failed_is (λ going room tells. seen c going room)

pub returns-clause-length : goal.returns-clause-length
returns-clause-length c =
    on_ok c.counted.result c.is_due-due.result c.entered-room.result _ c.counted.ensures.failed_is
    (λ going room. ap length (seen c going room) ∙ length-overwritten _ c.args.bytes.now c.args.at c.requires.inside)

pub returns-clause-kept : goal.returns-clause-kept
returns-clause-kept c =
    writes_entered c.is_due-due.result c.entered-room.result c.args.bytes.now (entered c)
    (subst (λ (d : DiskState). d.counts.faults ≤ c.counted.new.self.faults) c.self.view_is
    (counted_faults (is_err c.counted.result) _ _ c.counted.ensures.counted))
    c.requires.inside
