use Rattle.std.proofs.Common.{◌≡◌, false, take}
use Rattle.wtf_replica.specs.Downs.{is_down}
use Rattle.wtf_healer.specs.Sparse.{has_sparse}
use Rattle.wtf_healer.proofs.sparse.has_sparse.Given as goal

abbrev pub invariant-loop-i : goal.invariant-loop-i
invariant-loop-i l = has_sparse (is_down l.replicas) l.copies (take l.i l.list) ≡ false
