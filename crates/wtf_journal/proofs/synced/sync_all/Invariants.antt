use Rattle.std.proofs.Common.{◌≤◌}
use Rattle.wtf_journal.proofs.Follow.{SyncedTo}
use Rattle.wtf_journal.proofs.synced.sync_all.Given as goal

abbrev pub invariant-loop-file : goal.invariant-loop-file
invariant-loop-file g l = record {
  within : l.file ≤ 8;
  so_far : SyncedTo g.D.Disk.kind l.file l.fn.disk l.disk;
}
