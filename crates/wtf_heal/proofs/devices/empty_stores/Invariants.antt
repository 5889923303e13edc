use Rattle.std.proofs.Common.{◌≡◌}
use Rattle.std.specs.Prelude.{replicate}
use Rattle.wtf_heal.specs.Program.{empty_store}
use Rattle.wtf_heal.proofs.devices.empty_stores.Given as goal

-- so many stores were made
abbrev pub invariant-loop : goal.invariant-loop
invariant-loop l = l.stores.items ≡ replicate l.counter empty_store
