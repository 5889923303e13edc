use Rattle.std.proofs.Common.{◌≡◌, take}
use Rattle.wtf_dev.specs.DiskTape.{IsLeftover, disk_file}
use Rattle.wtf_dev.proofs.leftover.left_of.Given as goal

abbrev pub invariant-loop-call : goal.invariant-loop-call
invariant-loop-call l = record {
  file : l.leftover.file ≡ l.file;
  ones : l.leftover.ones ≡ l.ones;
  is : IsLeftover l.ones l.leftover.seen.items l.leftover.left.items (disk_file (take l.call-index l.calls) l.file);
}
