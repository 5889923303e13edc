use Rattle.std.proofs.Common.{◌≡◌, ◌+◌, ◌-◌, ◌<◌, ◌≤◌, ℕ, ◌++◌, [], ◌∷◌, take, List, arith, sym, ap, ◌∙◌, subst, inl, inr}
use Rattle.std.proofs.lemmas.Bool.{cases_lt}
use Rattle.std.proofs.lemmas.List.{take_all}
use Rattle.wtf_overlay.specs.Origin.{part_origin, pieces_len, pieces_origin, Plans}
use Rattle.wtf_overlay.specs.declared.part.Piece.{Piece}
use Rattle.wtf_overlay.proofs.Pieces.{Plans-cut}
use Rattle.wtf_meta.proofs.Piecewise.{pieces_len_more}
use Rattle.wtf_slicing.proofs.cutting.copy_part.Goals as goal

pub loop-piece-preserved-then-skip-piece : goal.loop-piece-preserved-then-skip-piece
loop-piece-preserved-then-skip-piece c =
    let inv = c.loop-piece.invariant in
    let more = pieces_len_more c.args.pieces.now c.loop-piece.piece-index c.piece-item.result c.loop-piece-test.true c.piece-item.is in
    record { upto = inv.upto; plans = inv.plans; place = λ some. let at = inv.place some in omega (arith, at, more, c.if-skip-piece.true) }

pub loop-piece-preserved : goal.loop-piece-preserved
loop-piece-preserved c =
    let ps = c.args.pieces.now in
    let off = c.args.off in
    let n = c.loop-piece.piece-index in
    let p = c.piece-item.result in
    let q = c.part_of.result in
    let k = c.min-n.result in
    let skip = c.loop-piece.skip in
    let left = c.loop-piece.left in
    let done : ℕ = c.args.len - left in
    let inv = c.loop-piece.invariant in
    let at = inv.place (omega (arith, c.if-left-eq0.false)) in
    let more = pieces_len_more ps n p c.loop-piece-test.true c.piece-item.is in
    let len : q.len ≡ k = c.part_of.ensures.len in
    let count = c.min-n.ensures in
    let here : skip ≡ off + done - pieces_len (take n ps) = omega (arith, at) in
    let plans : Plans (c.loop-piece.out.items ++ q ∷ []) (c.args.len - (left - k)) (λ i. pieces_origin ps (off + i)) =
    Plans-cut ps c.loop-piece.out.items n off done (c.args.len - (left - k)) p q c.loop-piece-test.true c.piece-item.is inv.plans (omega (arith, at))
    (omega (arith, at, len, count, c.if-skip-piece.false)) (omega (arith, inv.upto, len, count))
    (λ i. c.part_of.ensures.origin i ∙ ap (λ (j : ℕ). part_origin p.part (j + i)) here) in
    record {
      upto = omega (arith, inv.upto);
      plans = subst (λ (l : List Piece). Plans l (c.args.len - (left - k)) (λ i. pieces_origin ps (off + i))) (sym c.in_ok-push.ensures.items) plans;
      place = λ some. omega (arith, at, more, count, inv.upto, some, c.if-skip-piece.false);
    }

over : (left len off skip upto whole : ℕ) → (0 < left → upto + skip ≡ off + (len - left)) → upto ≡ whole → off + len ≤ whole → left ≤ len → len - left ≡ len
over left len off skip upto whole place all within below = elim (cases_lt 0 left) [
  | inl some ↦ let at = place some in absurd (omega (arith, at, all, within, some, below))
  | inr none ↦ omega (arith, none)
]

pub returns : goal.returns
returns c =
    let ps = c.args.pieces.now in
    let inv = c.loop-piece.invariant in
    let left = c.loop-piece.left in
    let all = ap pieces_len (take_all c.loop-piece.piece-index ps c.loop-piece-test.false) in
    let none : c.args.len - left ≡ c.args.len = over left c.args.len c.args.off c.loop-piece.skip (pieces_len (take c.loop-piece.piece-index ps))
    (pieces_len ps) inv.place all c.requires.within inv.upto in
    subst (λ (n : ℕ). Plans c.loop-piece.out.items n (λ i. pieces_origin ps (c.args.off + i))) none inv.plans
