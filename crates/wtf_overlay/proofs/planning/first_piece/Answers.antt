use Rattle.std.proofs.Common.{◌≡◌, ◌+◌, ◌-◌, ◌≤◌, [], ◌∷◌, ap, sym, ◌∙◌, arith, rules}
use Rattle.wtf_overlay.specs.Origin.{part_origin, origin_from}
use Rattle.wtf_overlay.proofs.Building.{run_before, run_first}
use Rattle.wtf_overlay.proofs.planning.first_piece.Goals as goal

pub returns-then-x-start-clause-origin : goal.returns-then-x-start-clause-origin
returns-then-x-start-clause-origin c = λ i h.
    let e = c.in-Some.e.now in
    let after = c.in-Some.field-0-1.now in
    let is : c.args.run.now ≡ e ∷ after = search rules in
    let run = rw is at c.requires.run in
    let self : e.off ≤ e.off = omega arith in
    ap (λ q. part_origin q i) c.of-then-x-start.ensures.part
    ∙ sym (ap (λ es. origin_from [] es (c.args.x + i)) is ∙ run_before e.off _ (e ∷ after) [] (c.args.x + i) (self, run.1) (omega arith))

pub returns-else-x-start-clause-origin : goal.returns-else-x-start-clause-origin
returns-else-x-start-clause-origin c = λ i h.
    let e = c.in-Some.e.now in
    let after = c.in-Some.field-0-1.now in
    let is : c.args.run.now ≡ e ∷ after = search rules in
    let run = rw is at c.requires.run in
    ap (λ q. part_origin q i) c.of-else-x-start.ensures.part ∙ c.between-part.ensures.origin i
    ∙ ap (part_origin e.part) (let j : c.args.x - e.off + i ≡ c.args.x + i - e.off = omega arith in j)
    ∙ sym (ap (λ es. origin_from [] es (c.args.x + i)) is ∙ run_first 0 _ e after [] (c.args.x + i) run (omega arith) (omega arith))
