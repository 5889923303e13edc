use Rattle.std.proofs.Common.{◌≡◌}
use Rattle.wtf_heal.specs.Program.{folders, folders_of}
use Rattle.wtf_heal.proofs.devices.open_stores.Given as goal

-- a store was opened for each folder so far
abbrev pub invariant-loop-k : goal.invariant-loop-k
invariant-loop-k l = folders l.stores.items ≡ folders_of l.lock.dir l.k
