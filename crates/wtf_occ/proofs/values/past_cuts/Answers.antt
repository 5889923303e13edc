use Rattle.std.proofs.Common.{arith, ◌≡◌, ◌+◌, ◌∙◌, get_or, sym, ap, cond, drop}
use Rattle.wtf_occ.specs.Positions.{first_covers}
use Rattle.wtf_occ.proofs.Indexed.{below-at, covers-here, past_cover-step}
use Rattle.wtf_occ.proofs.values.past_cuts.Goals as goal
use Rattle.wtf_occ.proofs.values.past_cuts.Goals.{then-is_covered, else-is_covered}

pub offset_bounds-changes-position : goal.offset_bounds-changes-position
offset_bounds-changes-position g c = omega (arith, below-at _ c.args.cuts.now c.loop-position.position-index 0 c.requires c.loop-position-test.true)

pub bounds-changes-position : goal.bounds-changes-position
bounds-changes-position g c = below-at _ c.args.cuts.now c.loop-position.position-index 0 c.requires c.loop-position-test.true

pub overflow_add-past : goal.overflow_add-past
overflow_add-past g c = omega (arith, below-at _ c.args.cuts.now c.loop-position.position-index 0 c.requires c.loop-position-test.true, c.well_formed.0.0)

pub loop-position-preserved : goal.loop-position-preserved
loop-position-preserved g c =
    let order = g.K.Ord.cmp in
    let cs = c.args.changes.now in
    let key = c.args.key.now in
    let is = c.args.cuts.now in
    let k = c.loop-position.position-index in
    let i = get_or is k 0 in
    let past = c.loop-position.past in
    let here : first_covers order (drop i cs) key ≡ c.is_covered.result =
    covers-here order cs key is k c.loop-position-test.true i c.index-changes-position.result (below-at _ is k 0 c.requires c.loop-position-test.true) c.index-changes-position.is ∙ sym c.is_covered.ensures in
    let next : c.if-is_covered.past ≡ cond c.is_covered.result (i + 1) past =
    elim c.if-is_covered.branch [
      | then-is_covered w ↦ w.past-is ∙ sym (ap (λ b. cond b (i + 1) past) w.if-is_covered.true)
      | else-is_covered w ↦ w.past-is ∙ sym (ap (λ b. cond b (i + 1) past) w.if-is_covered.false)
    ] in
    past_cover-step order cs key is k c.loop-position-test.true past c.if-is_covered.past (next ∙ sym (ap (λ b. cond b (i + 1) past) here)) ∙ c.loop-position.invariant
