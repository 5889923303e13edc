use Rattle.std.proofs.Common.{◌≡◌, ◌+◌, ◌-◌, ◌<◌, ◌≤◌, take}
use Rattle.wtf_overlay.specs.Origin.{pieces_len, pieces_origin, Plans}
use Rattle.wtf_slicing.proofs.cutting.copy_part.Given as goal

-- all but the bytes that are left were cut, and these begin in the next piece
abbrev pub invariant-loop-piece : goal.invariant-loop-piece
invariant-loop-piece l = record {
  upto : l.left ≤ l.len;
  plans : Plans l.out.items (l.len - l.left) (λ i. pieces_origin l.pieces (l.off + i));
  place : 0 < l.left → pieces_len (take l.piece-index l.pieces) + l.skip ≡ l.off + (l.len - l.left);
}
