use Rattle.std.proofs.Common.{arith, ◌<◌, ◌≡◌, ◌∙◌, length, get_or, sym, ap, cond, drop, take, nat_le}
use Rattle.std.proofs.lemmas.Bool.{le-leb, lt-leb}
use Rattle.wtf_kv.specs.Edits.{after_changes}
use Rattle.wtf_occ.proofs.Indexed.{below-at, change-here, after_positions-step}
use Rattle.wtf_occ.proofs.values.value_after.Goals as goal
use Rattle.wtf_occ.proofs.values.value_after.Goals.{then-from-position+in_ok-change_value, else-from-position}

pub offset_bounds-changes-position : goal.offset_bounds-changes-position
offset_bounds-changes-position g c = omega (arith, below-at _ c.args.positions.now c.loop-position.position-index 0 c.requires c.loop-position-test.true)

pub bounds-changes-position : goal.bounds-changes-position
bounds-changes-position g c = below-at _ c.args.positions.now c.loop-position.position-index 0 c.requires c.loop-position-test.true

pub loop-position-preserved : goal.loop-position-preserved
loop-position-preserved g c =
    let order = g.K.Ord.cmp in
    let outcome = g.C.Cell.outcome in
    let cs = c.args.changes.now in
    let key = c.args.key.now in
    let is = c.args.positions.now in
    let k = c.loop-position.position-index in
    let i = get_or is k 0 in
    let now = c.loop-position.now in
    let lt : i < length cs = below-at _ is k 0 c.requires c.loop-position-test.true in
    let made = after_changes order outcome (take 1 (drop i cs)) key now in
    let next : c.if-from-position.now ≡ cond (nat_le c.args.from i) made now =
    elim c.if-from-position.branch [
      | then-from-position+in_ok-change_value w ↦ w.now-is ∙ w.in_ok-change_value.ensures
          ∙ sym (change-here order cs key is k c.loop-position-test.true outcome i w.index-changes-position.result now lt w.index-changes-position.is)
          ∙ sym (ap (λ b. cond b made now) (le-leb c.args.from i w.if-from-position.true))
      | else-from-position w ↦ w.now-is ∙ sym (ap (λ b. cond b made now) (lt-leb c.args.from i w.if-from-position.false))
    ] in
    after_positions-step order cs key is k c.loop-position-test.true outcome c.args.from now c.if-from-position.now next ∙ c.loop-position.invariant
