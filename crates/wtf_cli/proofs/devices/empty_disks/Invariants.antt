use Rattle.std.proofs.Common.{◌≡◌}
use Rattle.std.specs.Prelude.{replicate}
use Rattle.wtf_cli.specs.Program.{empty_disk, unsynced}
use Rattle.wtf_cli.proofs.devices.empty_disks.Given as goal

-- so many stores were made
abbrev pub invariant-loop : goal.invariant-loop
invariant-loop l = l.stores.items ≡ replicate l.counter (unsynced empty_disk)
