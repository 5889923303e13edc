use Rattle.std.proofs.Common.{◌≡◌, ◌∙◌, cond, nat_eq, None, refl, sym, ap}
use Rattle.std.proofs.lemmas.Bool.{cond-true, cond-false, eq-eqb, ne_eqb}
use Rattle.wtf_kv.specs.Edits.{after_changes}
use Rattle.wtf_occ.specs.Positions.{is_cut, is_delta_of}
use Rattle.wtf_occ.proofs.Indexed.{positions-inside, by_index}
use Rattle.wtf_occ.proofs.write_set.WriteSet.summary_made_of.Goals as goal
use Rattle.wtf_occ.proofs.write_set.WriteSet.summary_made_of.Goals.{then-from-eq0, else-from-eq0}

pub past_cuts-from-requires : goal.past_cuts-from-requires
past_cuts-from-requires g c = positions-inside is_cut c.self.inside.changes _ _ c.as_slice-changes.ensures (c.as_slice.ensures.value ∙ c.self.invariant.0.cuts)

pub summary_after-requires : goal.summary_after-requires
summary_after-requires g c = positions-inside (is_delta_of g.K.Ord.cmp c.args.key.now) c.self.inside.changes _ _ c.as_slice-changes.ensures (c.positions_in-positions.ensures ∙ c.self.invariant.0.deltas c.args.key.now)

pub returns : goal.returns
returns g c = λ value is.
    let order = g.K.Ord.cmp in
    let outcome = g.C.Cell.outcome in
    let summary = g.C.Summarized.summary_of in
    let key = c.args.key.now in
    let from = c.past_cuts-from.result in
    let before = cond (nat_eq from 0) value None in
    let start : c.if-from-eq0.start ≡ summary before =
    elim c.if-from-eq0.branch [
      | then-from-eq0 w ↦ w.start-is ∙ is ∙ ap summary (sym (cond-true (nat_eq from 0) value None (eq-eqb from 0 w.if-from-eq0.true)))
      | else-from-eq0 w ↦ w.start-is ∙ w.no_summary-start.ensures ∙ ap summary (sym (cond-false (nat_eq from 0) value None (ne_eqb from 0 w.if-from-eq0.false)))
    ] in
    c.summary_after.ensures before start
    ∙ ap summary (by_index order outcome key c.self.inside.changes c.as_slice-changes.result.now c.as_slice.result.now c.positions_in-positions.result.now value before from
    c.as_slice-changes.ensures (c.as_slice.ensures.value ∙ c.self.invariant.0.cuts) (c.positions_in-positions.ensures ∙ c.self.invariant.0.deltas key) c.past_cuts-from.ensures refl
    ∙ ap (λ l. after_changes order outcome l key value) c.self.view_is)
