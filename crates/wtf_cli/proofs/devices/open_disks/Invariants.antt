use Rattle.std.proofs.Common.{◌≡◌}
use Rattle.wtf_cli.specs.Program.{disk_folders, folders_of}
use Rattle.wtf_cli.proofs.devices.open_disks.Given as goal

-- the disk of a store was opened for each folder so far
abbrev pub invariant-loop-k : goal.invariant-loop-k
invariant-loop-k l = disk_folders l.stores.items ≡ folders_of l.lock.dir l.k
