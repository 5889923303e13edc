use Rattle.std.proofs.Common.{◌≡◌, ◌+◌, take}
use Rattle.wtf_overlay.specs.Origin.{pieces_len}
use Rattle.wtf_meta.proofs.kept.walk.Given as goal

-- the pieces so far end before the byte
abbrev pub invariant-loop-piece : goal.invariant-loop-piece
invariant-loop-piece l = record {
  count : l.count ≡ l.piece-index;
  left : pieces_len (take l.piece-index l.pieces) + l.left ≡ l.off;
}
