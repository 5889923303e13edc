use Rattle.std.proofs.Common.{◌≡◌, ◌∙◌, [], nat_eq, false, None, sym, ap}
use Rattle.std.proofs.lemmas.Bool.{cond-true, cond-false, eq-eqb, ne_eqb}
use Rattle.std.specs.Option.{option_copied}
use Rattle.wtf_kv.specs.Edits.{after_changes}
use Rattle.wtf_occ.specs.Positions.{is_cut, is_delta_of, has_delta}
use Rattle.wtf_occ.proofs.Indexed.{positions-inside, no-positions, by_index}
use Rattle.wtf_occ.proofs.write_set.WriteSet.uncut.Goals as goal

pub past_cuts-from-requires : goal.past_cuts-from-requires
past_cuts-from-requires g c =
    positions-inside is_cut c.self.inside.changes _ _ c.as_slice-changes.ensures (c.as_slice.ensures.value ∙ c.self.invariant.0.cuts)

pub returns-then-from-eq0 : goal.returns-then-from-eq0
returns-then-from-eq0 g c =
    let order = g.K.Ord.cmp in
    let outcome = g.C.Cell.outcome in
    let key = c.args.key.now in
    let all = c.self.inside.changes in
    let value = option_copied c.args.at_base in
    let none : has_delta order all key ≡ false = ap (λ l. has_delta order l key) c.self.view_is ∙ c.requires in
    by_index order outcome key all c.as_slice-changes.result.now c.as_slice.result.now [] value value c.past_cuts-from.result
    c.as_slice-changes.ensures (c.as_slice.ensures.value ∙ c.self.invariant.0.cuts) (no-positions (is_delta_of order key) all 0 none) c.past_cuts-from.ensures
    (sym (cond-true (nat_eq c.past_cuts-from.result 0) value None (eq-eqb c.past_cuts-from.result 0 c.if-from-eq0.true)))
    ∙ ap (λ l. after_changes order outcome l key value) c.self.view_is

pub returns-else-from-eq0 : goal.returns-else-from-eq0
returns-else-from-eq0 g c =
    let order = g.K.Ord.cmp in
    let outcome = g.C.Cell.outcome in
    let key = c.args.key.now in
    let all = c.self.inside.changes in
    let value = option_copied c.args.at_base in
    let none : has_delta order all key ≡ false = ap (λ l. has_delta order l key) c.self.view_is ∙ c.requires in
    by_index order outcome key all c.as_slice-changes.result.now c.as_slice.result.now [] value None c.past_cuts-from.result
    c.as_slice-changes.ensures (c.as_slice.ensures.value ∙ c.self.invariant.0.cuts) (no-positions (is_delta_of order key) all 0 none) c.past_cuts-from.ensures
    (sym (cond-false (nat_eq c.past_cuts-from.result 0) value None (ne_eqb c.past_cuts-from.result 0 c.if-from-eq0.false)))
    ∙ ap (λ l. after_changes order outcome l key value) c.self.view_is
