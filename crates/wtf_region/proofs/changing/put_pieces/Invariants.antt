use Rattle.std.proofs.Common.{◌≡◌, take, []}
use Rattle.wtf_overlay.specs.Origin.{pieces_len}
use Rattle.wtf_occ.specs.Attempts.{Grows}
use Rattle.wtf_region.specs.Holding.{held_over}
use Rattle.wtf_region.specs.Edited.{Edited}
use Rattle.wtf_region.proofs.PieceEdits.{CoversFirst}
use Rattle.wtf_region.proofs.changing.put_pieces.Given as goal

-- the pieces so far, of `done` bytes, were laid, or are held
abbrev pub invariant-loop-piece : goal.invariant-loop-piece
invariant-loop-piece l = record {
  done : l.done ≡ pieces_len (take l.piece-index l.pieces);
  made : Edited l.inode [] (CoversFirst l.settings.region l.off l.inode l.pieces l.piece-index l.done) l.fn.at (held_over l.inode l.held l.at);
  grows : Grows l.fn.at l.at;
}
