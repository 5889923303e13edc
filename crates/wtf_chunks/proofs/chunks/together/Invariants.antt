use Rattle.std.proofs.Common.{◌≡◌, take}
use Rattle.std.specs.List.{flat_map}
use Rattle.std.specs.Rc.{rc_slice_items}
use Rattle.wtf_chunks.proofs.chunks.together.Given as goal

abbrev pub invariant-loop-chunk : goal.invariant-loop-chunk
invariant-loop-chunk g l = l.items.items ≡ flat_map rc_slice_items (take l.chunk-index l.chunks)
