use Rattle.std.proofs.Common.{length}
use Rattle.wtf_journal.proofs.Within.{within_one, within_sync, sync_ends}
use Rattle.wtf_journal.proofs.through.write_through.Goals as goal

pub returns-in_err-write-clause-kept : goal.returns-in_err-write-clause-kept
returns-in_err-write-clause-kept g c = within_one g.D.Disk.kind c.args.file c.args.at
    (length c.args.bytes.now) c.args.disk.now c.write.new.self c.write.ensures.kept

pub returns-clause-kept : goal.returns-clause-kept
returns-clause-kept g c =
    let kind = g.D.Disk.kind in
    let mid = c.write.new.self in
    within_sync kind c.args.file c.sync.result c.args.at (length c.args.bytes.now) c.args.disk.now mid c.sync.new.self
    (within_one kind c.args.file c.args.at (length c.args.bytes.now) c.args.disk.now mid c.write.ensures.kept)
    c.sync.ensures.kept
    (λ still. sync_ends kind c.args.file c.sync.result mid c.sync.new.self g.met.D.Disk.laws still c.sync.ensures.settled c.sync.ensures.remains)
