use Rattle.std.proofs.Common.{sym, ap, subst, ◌∙◌, ◌≤◌, [], cond, None}
use Rattle.std.specs.BTreeMap.Range.{is_from_start}
use Rattle.wtf_kv.specs.Stores.{Store, listed, map_at}
use Rattle.wtf_kv.specs.Walks.{HasRowsUpto}
use Rattle.wtf_kv.proofs.StoreLemmas.{read_value}
use Rattle.wtf_kv.proofs.history.History.most_rows.Goals as goal

pub returns : goal.returns
returns g c = λ n upto start.
    let R = g.K.Ord.cmp in
    let s : Store g.row.K.Denot g.row.C.Denot = record { number = c.self.inside.number; pins = []; cells = listed c.self.inside.cells.entries } in
    let le = subst (λ s. n ≤ s.number) (sym c.self.view_is) upto in
    let has = c.most_rows.ensures n start in
    subst (λ t. HasRowsUpto R start (map_at R t n) c.most_rows.result) c.self.view_is
    (record { rows = has.rows; are = record { ordered = has.are.ordered; each = λ q. has.are.each q ∙ ap (λ v. cond (is_from_start R start q) v None) (read_value R s n q le) }; few = has.few })
