use Rattle.std.proofs.Common.{◌≡◌, ℕ, ◌+◌, List, take, arith, rules, sym, subst}
use Rattle.wtf_meta.specs.Slices.{bytes_in}
use Rattle.wtf_meta.proofs.Piecewise.{pieces_len_more}
use Rattle.wtf_meta.proofs.Ends.{AreEndsTo, ends_more}
use Rattle.wtf_meta.proofs.kept.ends_of.Goals as goal

pub loop-piece-preserved : goal.loop-piece-preserved
loop-piece-preserved c =
    let ps = c.args.pieces.now in
    let n = c.loop-piece.piece-index in
    let inv = c.loop-piece.invariant in
    let sum : c.saturating_add-sum.result ≡ bytes_in (take (n + 1) ps) =
    omega (arith, c.saturating_add-sum.ensures, inv.sum, pieces_len_more ps n c.piece-item.result (omega arith) c.piece-item.is) in
    record {
      sum = sum;
      count = search rules;
      ends = subst (λ (es : List ℕ). AreEndsTo ps es (n + 1)) (sym c.in_ok-push.ensures.items)
          (ends_more ps c.loop-piece.ends.items n c.saturating_add-sum.result inv.count sum inv.ends);
    }
