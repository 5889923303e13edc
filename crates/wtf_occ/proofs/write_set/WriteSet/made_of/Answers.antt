use Rattle.std.proofs.Common.{◌∙◌, ap}
use Rattle.std.specs.Option.{option_copied}
use Rattle.std.proofs.lemmas.Result.{IfOk-weaker}
use Rattle.wtf_kv.specs.Edits.{after_changes}
use Rattle.wtf_occ.specs.Positions.{is_cut, is_delta_of}
use Rattle.wtf_occ.proofs.Indexed.{positions-inside, by_index}
use Rattle.wtf_occ.proofs.write_set.WriteSet.made_of.Goals as goal

pub past_cuts-from-requires : goal.past_cuts-from-requires
past_cuts-from-requires g c = positions-inside is_cut c.self.inside.changes _ _ c.as_slice-changes.ensures (c.as_slice.ensures.value ∙ c.self.invariant.0.cuts)

pub value_after-requires : goal.value_after-requires
value_after-requires g c = positions-inside (is_delta_of g.K.Ord.cmp c.args.key.now) c.self.inside.changes _ _ c.as_slice-changes.ensures (c.positions_in-positions.ensures ∙ c.self.invariant.0.deltas c.args.key.now)

pub returns : goal.returns
returns g c =
    let order = g.K.Ord.cmp in
    let outcome = g.C.Cell.outcome in
    let key = c.args.key.now in
    let value = option_copied c.args.at_base in
    IfOk-weaker c.value_after.result _ _ (λ now made. made
    ∙ by_index order outcome key c.self.inside.changes c.as_slice-changes.result.now c.as_slice.result.now c.positions_in-positions.result.now value c.in_ok-before.before c.past_cuts-from.result
    c.as_slice-changes.ensures (c.as_slice.ensures.value ∙ c.self.invariant.0.cuts) (c.positions_in-positions.ensures ∙ c.self.invariant.0.deltas key) c.past_cuts-from.ensures c.in_ok-before.ensures
    ∙ ap (λ l. after_changes order outcome l key value) c.self.view_is) c.value_after.ensures
