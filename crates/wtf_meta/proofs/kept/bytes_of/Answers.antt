use Rattle.std.proofs.Common.{arith}
use Rattle.wtf_meta.proofs.Piecewise.{pieces_len_more}
use Rattle.wtf_meta.proofs.kept.bytes_of.Goals as goal

pub loop-piece-preserved : goal.loop-piece-preserved
loop-piece-preserved c =
    omega (
      arith,
      c.saturating_add-sum.ensures,
      c.loop-piece.invariant,
      pieces_len_more c.args.pieces.now c.loop-piece.piece-index c.piece-item.result (omega arith) c.piece-item.is,
    )
