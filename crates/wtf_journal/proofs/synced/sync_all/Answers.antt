use Rattle.std.proofs.Common.{arith}
use Rattle.wtf_journal.proofs.Follow.{on_err, rose_later, follows_sync, synced_none, synced_more}
use Rattle.wtf_journal.proofs.synced.sync_all.Goals as goal

pub loop-file-init : goal.loop-file-init
loop-file-init g c = record { within = omega arith; so_far = synced_none g.D.Disk.kind g.met.D.Disk.laws c.args.disk.now }

pub loop-file-preserved : goal.loop-file-preserved
loop-file-preserved g c = record {
  within = omega (arith, c.loop-file-test.true);
  so_far = synced_more g.D.Disk.kind g.met.D.Disk.laws c.sync.result c.loop-file.file c.args.disk.now c.loop-file.disk c.sync.new.self
      c.loop-file.invariant.so_far c.sync.ensures.kept c.sync.ensures.settled c.sync.ensures.remains c.in_ok-sync.ensures.settled;
}

pub returns-in_err-sync-clause-follows : goal.returns-in_err-sync-clause-follows
returns-in_err-sync-clause-follows g c =
    follows_sync g.D.Disk.kind g.met.D.Disk.laws c.sync.result c.loop-file.file c.args.disk.now c.loop-file.disk c.sync.new.self
    c.loop-file.invariant.so_far c.sync.ensures.kept c.sync.ensures.settled c.sync.ensures.remains

pub returns-in_err-sync-clause-cause : goal.returns-in_err-sync-clause-cause
returns-in_err-sync-clause-cause g c =
    on_err c.from_residual.result _ (rose_later _ _ _ (c.loop-file.invariant.so_far.follows 0 0 (omega arith)).kept.faults c.in_err-sync.ensures.cause)
