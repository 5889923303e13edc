use Rattle.std.proofs.Common.{◌≡◌, length}
use Rattle.wtf_bench.proofs.slices.create.Given as goal

-- there are as many stores as there were
abbrev pub invariant-loop : goal.invariant-loop
invariant-loop l = length l.shelf ≡ length l.initial.shelf
