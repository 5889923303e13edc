use Rattle.std.proofs.Common.{◌≡◌, length}
use Rattle.wtf_bench.proofs.slices.shelf_of.Given as goal

-- so many stores were made
abbrev pub invariant-loop : goal.invariant-loop
invariant-loop l = length l.stores.items ≡ l.counter
