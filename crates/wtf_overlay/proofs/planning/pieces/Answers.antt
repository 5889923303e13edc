use Rattle.std.proofs.Common.{◌≡◌, ◌+◌, ◌-◌, [], ◌∷◌, ap, sym, ◌∙◌, arith, inl, inr, length, length-append}
use Rattle.std.proofs.lemmas.Bool.{cases_lt}
use Rattle.wtf_overlay.specs.Origin.{origin}
use Rattle.wtf_overlay.proofs.Pieces.{Plans-push}
use Rattle.wtf_overlay.proofs.Borders.{borders_above-most}
use Rattle.wtf_overlay.proofs.Edging.{edge_falls}
use Rattle.wtf_overlay.specs.Edges.{is_edge}
use Rattle.wtf_overlay.proofs.planning.pieces.Goals as goal

pub loop-x-preserved : goal.loop-x-preserved
loop-x-preserved c =
    let p = c.first_piece-piece.result in
    let i = c.loop-x.invariant in
    record {
      begun = omega arith;
      within = omega arith;
      run = c.past-rest.ensures.run;
      same = λ b y h. i.same b y (omega arith) ∙ c.past-rest.ensures.same b y (omega arith);
      plans = rw c.in_ok-push.ensures.items (Plans-push _ p _ _ _ (omega arith) i.plans
          (λ j h. c.first_piece-piece.ensures.origin j h
          ∙ sym (i.same [] (c.loop-x.x + j) (omega arith) ∙ c.past-rest.ensures.same [] (c.loop-x.x + j) (omega arith))
          ∙ ap (origin c.args.run.now) (let k : c.loop-x.x + j ≡ c.args.off + (c.loop-x.x - c.args.off + j) = omega arith in k)));
      count = λ es edges.
          let k = i.count es edges in
          let to = c.args.off + c.args.len in
          let rest = c.past-rest.ensures.edges (is_edge es) k.0 in (
            rest,
            elim k.1 [
              | inl h ↦ elim (c.first_piece-piece.ensures.next (is_edge es) rest) [
                | inl e ↦ inr (omega arith, omega (arith, ap length c.in_ok-push.ensures.items, length-append c.loop-x.out.items (p ∷ [])))
                | inr s ↦ elim (cases_lt (c.loop-x.x + p.len) to) [
                  | inl l ↦ inl (omega (
                    arith,
                    ap length c.in_ok-push.ensures.items,
                    length-append c.loop-x.out.items (p ∷ []),
                    edge_falls es c.loop-x.x (c.loop-x.x + p.len) (omega (arith, p.positive)) s,
                  ))
                  | inr g ↦ inr (omega arith, omega (arith, ap length c.in_ok-push.ensures.items, length-append c.loop-x.out.items (p ∷ [])))
                ]
              ]
              | inr h ↦ absurd (omega arith)
            ],
          );
    }

pub returns-clause-count : goal.returns-clause-count
returns-clause-count c = λ es edges.
    let k = c.loop-x.invariant.count es edges in
    elim k.1 [
      | inl h ↦ omega (arith, borders_above-most es c.args.off)
      | inr h ↦ omega (arith, borders_above-most es c.args.off)
    ]
