use Rattle.std.proofs.Common.{◌-◌, ◌^◌, ◌∙◌, arith}
use Rattle.wtf_region.proofs.Summed.{summed_more}
use Rattle.wtf_region.proofs.changing.bytes_of.Goals as goal

pub loop-piece-preserved : goal.loop-piece-preserved
loop-piece-preserved c =
    c.saturating_add-sum.ensures ∙ summed_more c.args.pieces.now c.loop-piece.piece-index c.piece-item.result (2 ^ 64 - 1) c.loop-piece.sum (omega arith)
    c.piece-item.is c.loop-piece.invariant
