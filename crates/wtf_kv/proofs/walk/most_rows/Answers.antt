use Rattle.std.proofs.Common.{sym, subst}
use Rattle.wtf_kv.specs.Seen.{last_seen, value_seen}
use Rattle.wtf_kv.specs.Stores.{listed, versions_in}
use Rattle.wtf_kv.specs.Walks.{HasRowsUpto}
use Rattle.wtf_kv.proofs.Walked.{rows_upto}
use Rattle.wtf_kv.proofs.walk.most_rows.Goals as goal

pub returns : goal.returns
returns g c = λ n start.
    let R = g.K.Ord.cmp in
    subst (HasRowsUpto R start (λ q. value_seen (last_seen n (versions_in R (listed c.args.cells.now.entries) q)))) (sym c.len.ensures.len)
    (rows_upto g.met.K.Ord.total g.met.K.StoreKey.exact start c.args.cells.now.entries n c.len.ensures.ordered)
