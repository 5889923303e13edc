use Rattle.std.proofs.Common.{◌∙◌, ◌==◌, not, length, sym, ap}
use Rattle.std.specs.List.{list_any}
use Rattle.wtf_occ.specs.Positions.{is_delta_of}
use Rattle.wtf_occ.proofs.Indexed.{any-positions}
use Rattle.wtf_occ.proofs.write_set.WriteSet.has_delta.Goals as goal

pub returns : goal.returns
returns g c =
    let key = c.args.key.now in
    let at = is_delta_of g.K.Ord.cmp key in
    ap not (c.is_empty.ensures ∙ ap (λ l. length l == 0) (c.positions_in.ensures ∙ c.self.invariant.0.deltas key))
    ∙ sym (any-positions at c.self.inside.changes 0)
    ∙ ap (list_any at) c.self.view_is
