use Rattle.std.proofs.Common.{sym, ap, subst, ◌∙◌, ◌≤◌, [], cond, None}
use Rattle.std.specs.Range.Bound.{bound_map}
use Rattle.std.specs.BTreeMap.Range.{is_from_start}
use Rattle.wtf_kv.specs.Stores.{Store, listed, map_at}
use Rattle.wtf_kv.specs.Walks.{AreRowsFrom}
use Rattle.wtf_kv.proofs.StoreLemmas.{read_value}
use Rattle.wtf_kv.proofs.history.History.rows.Goals as goal

pub returns : goal.returns
returns g c =
    let R = g.K.Ord.cmp in
    let start = bound_map (λ k. k.now) c.args.start in
    let s : Store g.row.K.Denot g.row.C.Denot = record { number = c.self.inside.number; pins = []; cells = listed c.self.inside.cells.entries } in
    let le = subst (λ s. c.args.n ≤ s.number) (sym c.self.view_is) c.requires in
    subst (λ t. AreRowsFrom R start (map_at R t c.args.n) c.rows_in.result) c.self.view_is
    (record { ordered = c.rows_in.ensures.ordered; each = λ q. c.rows_in.ensures.each q ∙ ap (λ v. cond (is_from_start R start q) v None) (read_value R s c.args.n q le) })
