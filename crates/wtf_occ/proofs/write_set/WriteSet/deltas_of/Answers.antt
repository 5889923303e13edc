use Rattle.std.proofs.Common.{◌≡◌, ◌∙◌, ℕ, List, [], arith, refl, sym, ap}
use Rattle.std.proofs.lemmas.Bool.{eqb-true}
use Rattle.std.proofs.lemmas.List.{nil_from_length}
use Rattle.std.specs.Vec.{vec_len}
use Rattle.wtf_kv.specs.Edits.{after_changes}
use Rattle.wtf_occ.specs.Positions.{is_delta_of, past_cover}
use Rattle.wtf_occ.proofs.Indexed.{positions-inside, by_index}
use Rattle.wtf_occ.proofs.write_set.WriteSet.deltas_of.Goals as goal

pub returns-clause-below : goal.returns-clause-below
returns-clause-below g c =
    positions-inside (is_delta_of g.K.Ord.cmp c.args.key.now) c.self.inside.changes _ _ (sym c.self.view_is)
    (c.positions_in.ensures ∙ c.self.invariant.0.deltas c.args.key.now)

pub returns-clause-value : goal.returns-clause-value
returns-clause-value g c = λ now.
    let order = g.K.Ord.cmp in
    let key = c.args.key.now in
    let none : c.self.inside.cuts.items ≡ [] = nil_from_length c.self.inside.cuts.items (omega (arith, eqb-true (vec_len c.self.inside.cuts) 0 (sym c.is_empty.ensures ∙ c.if-not-is_empty.false))) in
    by_index order g.C.Cell.outcome key c.self.inside.changes c.args.self.now c.self.inside.cuts.items c.positions_in.result.now now now 0
    (sym c.self.view_is) c.self.invariant.0.cuts (c.positions_in.ensures ∙ c.self.invariant.0.deltas key)
    (ap (λ (cuts : List ℕ). past_cover order c.args.self.now key cuts 0) (sym none)) refl
    ∙ ap (λ l. after_changes order g.C.Cell.outcome l key now) c.self.view_is
