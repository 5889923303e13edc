use Rattle.wtf_dev.specs.Memory.{mem_store}
use Rattle.wtf_replica.specs.Copies.{IsInside}
use Rattle.wtf_bench.proofs.slices.fetch.Given as goal

-- the slice is inside the stores
abbrev pub invariant-loop : goal.invariant-loop
invariant-loop l = IsInside mem_store l.shelf l.slice
