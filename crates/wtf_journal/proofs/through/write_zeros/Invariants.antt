use Rattle.std.proofs.Common.{◌≤◌, ◌-◌}
use Rattle.wtf_journal.proofs.Within.{ZeroedTo}
use Rattle.wtf_journal.proofs.through.write_zeros.Given as goal

abbrev pub invariant-loop-done : goal.invariant-loop-done
invariant-loop-done g l = record {
  most : l.done ≤ l.len;
  so_far : ZeroedTo g.D.Disk.kind l.file l.at l.done l.fn.disk l.disk;
}

abbrev pub decreases-loop-done : goal.decreases-loop-done
decreases-loop-done g l = l.len - l.done
