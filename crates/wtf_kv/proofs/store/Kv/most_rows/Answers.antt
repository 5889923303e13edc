use Rattle.std.proofs.Common.{◌≤◌, sym, subst}
use Rattle.wtf_kv.specs.Stores.{Store, map_at}
use Rattle.wtf_kv.specs.Walks.{HasRowsUpto}
use Rattle.wtf_kv.proofs.store.Kv.most_rows.Goals as goal

pub returns : goal.returns
returns g c = λ n upto start.
    subst (λ (s : Store g.row.K.Denot g.row.C.Denot). HasRowsUpto g.K.Ord.cmp start (map_at g.K.Ord.cmp s n) c.most_rows.result) c.self.view_is
    (c.most_rows.ensures n (subst (λ (s : Store g.row.K.Denot g.row.C.Denot). n ≤ s.number) (sym c.self.view_is) upto) start)
