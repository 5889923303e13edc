use Rattle.std.proofs.Common.{◌≡◌, false, take}
use Rattle.wtf_base.specs.Slices.{pointers_of}
use Rattle.wtf_replica.specs.Downs.{is_down}
use Rattle.wtf_healer.specs.Sparse.{has_lost}
use Rattle.wtf_healer.proofs.sparse.is_sparse.Given as goal

abbrev pub invariant-loop-i : goal.invariant-loop-i
invariant-loop-i l = has_lost (is_down l.replicas) (take l.i (pointers_of l.slice)) ≡ false
