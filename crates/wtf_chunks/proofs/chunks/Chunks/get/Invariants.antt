use Rattle.std.proofs.Common.{◌≡◌, ◌<◌, length, get_or}
use Rattle.std.specs.Rc.{rc_slice_items}
use Rattle.wtf_chunks.proofs.Joined.{rest_from}
use Rattle.wtf_chunks.proofs.chunks.Chunks.get.Given as goal

abbrev pub invariant-loop-chunk : goal.invariant-loop-chunk
invariant-loop-chunk g l = record {
  inside : l.at < length (rest_from rc_slice_items l.chunk-index l.chunk-items l.self-inside.last.items);
  is : (d : g.row.T.Denot) → get_or (rest_from rc_slice_items l.chunk-index l.chunk-items l.self-inside.last.items) l.at d ≡ get_or l.self l.i d;
}
