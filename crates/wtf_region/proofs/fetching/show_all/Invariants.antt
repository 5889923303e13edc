use Rattle.std.proofs.Common.{◌≡◌, ◌-◌, ◌+◌, drop, []}
use Rattle.wtf_overlay.specs.Origin.{pieces_origin}
use Rattle.wtf_replica.specs.Bytes.{byte_at}
use Rattle.wtf_region.specs.Devs.{GoesOn, stores, is_down_in, remembered, between}
use Rattle.wtf_region.specs.Showing.{ShownBoth, OnlyRead, pieces_in}
use Rattle.wtf_region.proofs.ShowLaws.{Walk, Passed}
use Rattle.wtf_region.proofs.fetching.show_all.Given as goal

-- what was shown so far, and what of the pieces that are left is to be skipped and shown
abbrev pub invariant-loop-piece : goal.invariant-loop-piece
invariant-loop-piece g l = record {
  walk : Walk l.pieces l.off l.len (drop l.piece-index l.pieces) l.skip l.left;
  passed : Passed (is_down_in l.fn.dev) (pieces_in l.off l.len l.pieces) (pieces_in l.skip l.left (drop l.piece-index l.pieces));
  shown : ShownBoth (is_down_in l.fn.dev) (byte_at g.S.SliceStore.kind (stores l.fn.dev)) (l.len - l.left) (λ i. pieces_origin l.pieces (l.off + i))
      l.fn.out.items l.out.items;
  reads : OnlyRead g.S.SliceStore.kind (between l.fn.dev l.dev);
  lists : remembered l.dev ≡ remembered l.fn.dev;
  each : GoesOn g.S.SliceStore.kind l.fn.dev l.dev [];
}
