use Rattle.std.proofs.Common.{sym, subst}
use Rattle.std.specs.List.{AllByRecursion}
use Rattle.std.specs.Range.Bound.{bound_map}
use Rattle.std.specs.BTreeMap.Range.{range_contains}
use Rattle.std.specs.declared.ops.Bound.TheVariants.{Unbounded}
use Rattle.wtf_kv.specs.Seen.{last_seen, value_seen, ascends}
use Rattle.wtf_kv.specs.Stores.{listed, versions_in}
use Rattle.wtf_kv.specs.Walks.{rows_seen, AreRowsFrom}
use Rattle.wtf_kv.proofs.Ranges.{each_ascends, each-filter}
use Rattle.wtf_kv.proofs.Walked.{rows_of_part}
use Rattle.wtf_kv.proofs.walk.rows_in.Goals as goal

pub invariant_of-result : goal.invariant_of-result
invariant_of-result g c =
    let start = bound_map (λ k. k.now) c.args.start in
    subst (AllByRecursion (λ e. ascends e.1.items)) (sym (c.range.ensures.between tt))
    (each-filter (λ e. ascends e.1.items) (λ e. range_contains g.K.Ord.cmp start Unbounded e.0) c.args.cells.now.entries
    (each_ascends g.met.K.Ord.total c.args.cells.now c.range.ensures.ordered c.requires))

pub returns : goal.returns
returns g c =
    let R = g.K.Ord.cmp in
    let start = bound_map (λ k. k.now) c.args.start in
    subst (λ l. AreRowsFrom R start (λ q. value_seen (last_seen c.args.n (versions_in R (listed c.args.cells.now.entries) q))) (rows_seen c.args.n (listed l)))
    (sym (c.range.ensures.between tt))
    (rows_of_part g.met.K.Ord.total g.met.K.StoreKey.exact start c.args.cells.now.entries c.args.n c.range.ensures.ordered)
