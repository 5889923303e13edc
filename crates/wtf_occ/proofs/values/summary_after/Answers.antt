use Rattle.std.proofs.Common.{arith, ◌<◌, ◌≡◌, ◌∙◌, length, get_or, sym, ap, refl, cond, drop, take, nat_le}
use Rattle.std.proofs.lemmas.Bool.{le-leb, lt-leb}
use Rattle.wtf_kv.specs.Edits.{after_changes}
use Rattle.wtf_occ.proofs.Indexed.{below-at, change-here, after_positions-step}
use Rattle.wtf_occ.proofs.values.summary_after.Goals as goal
use Rattle.wtf_occ.proofs.values.summary_after.Goals.{then-position-from, else-position-from}

pub offset_bounds-changes-position : goal.offset_bounds-changes-position
offset_bounds-changes-position g c = omega (arith, below-at _ c.args.positions.now c.loop-position.position-index 0 c.requires c.loop-position-test.true)

pub bounds-changes-position : goal.bounds-changes-position
bounds-changes-position g c = below-at _ c.args.positions.now c.loop-position.position-index 0 c.requires c.loop-position-test.true

pub loop-position-preserved : goal.loop-position-preserved
loop-position-preserved g c = λ start is.
    let order = g.K.Ord.cmp in
    let outcome = g.C.Cell.outcome in
    let summary = g.C.Summarized.summary_of in
    let cs = c.args.changes.now in
    let key = c.args.key.now in
    let places = c.args.positions.now in
    let k = c.loop-position.position-index in
    let i = get_or places k 0 in
    let known = c.loop-position.invariant start is in
    let now = known.0 in
    let lt : i < length cs = below-at _ places k 0 c.requires c.loop-position-test.true in
    let made = after_changes order outcome (take 1 (drop i cs)) key now in
    let next = cond (nat_le c.args.from i) made now in
    let told : c.if-position-from.summary ≡ summary next =
    elim c.if-position-from.branch [
      | then-position-from w ↦ w.summary-is ∙ w.changed_summary-summary.ensures now known.1
          ∙ ap summary (sym (change-here order cs key places k c.loop-position-test.true outcome i w.index-changes-position.result now lt w.index-changes-position.is))
          ∙ ap summary (sym (ap (λ b. cond b made now) (le-leb c.args.from i w.if-position-from.true)))
      | else-position-from w ↦ w.summary-is ∙ known.1 ∙ ap summary (sym (ap (λ b. cond b made now) (lt-leb c.args.from i w.if-position-from.false)))
    ] in
    (next, told, after_positions-step order cs key places k c.loop-position-test.true outcome c.args.from now next refl ∙ known.2)
