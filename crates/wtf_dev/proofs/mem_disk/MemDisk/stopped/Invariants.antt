use Rattle.std.proofs.Common.{◌≤◌}
use Rattle.wtf_dev.proofs.DiskStops.{AreRestored}
use Rattle.wtf_dev.proofs.mem_disk.MemDisk.stopped.Given as goal

abbrev pub invariant-loop-file : goal.invariant-loop-file
invariant-loop-file l = record {
  within : l.file ≤ 8;
  are : AreRestored l.pick l.self.noted l.tape l.file;
}
