use Rattle.std.proofs.Common.{◌≡◌, ◌+◌, take, ap, ◌∙◌, arith}
use Rattle.wtf_overlay.specs.Origin.{pieces_len}
use Rattle.wtf_meta.proofs.Piecewise.{pieces_len_more}
use Rattle.wtf_meta.proofs.kept.walk.Goals as goal

pub returns-then-left-piece : goal.returns-then-left-piece
returns-then-left-piece c =
    let ps = c.args.pieces.now in
    let n = c.loop-piece.piece-index in
    let inv = c.loop-piece.invariant in
    let more = pieces_len_more ps n c.piece-item.result c.loop-piece-test.true c.piece-item.is in
    let at : take c.loop-piece.count ps ≡ take n ps = ap (λ j. take j ps) inv.count in
    let next : take (c.loop-piece.count + 1) ps ≡ take (n + 1) ps = ap (λ j. take (j + 1) ps) inv.count in
    record {
      within = omega (arith, inv.count, c.loop-piece-test.true);
      is = ap pieces_len at ∙ omega (arith, inv.left);
      passed = omega (arith, inv.left);
      next = λ some. omega (arith, ap pieces_len next, more, inv.left, c.if-left-piece.true);
    }

pub loop-piece-preserved : goal.loop-piece-preserved
loop-piece-preserved c =
    let inv = c.loop-piece.invariant in
    let more = pieces_len_more c.args.pieces.now c.loop-piece.piece-index c.piece-item.result c.loop-piece-test.true c.piece-item.is in
    record { count = omega (arith, inv.count); left = omega (arith, inv.left, more, c.if-left-piece.false) }
