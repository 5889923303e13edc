use Rattle.std.proofs.Common.{rules, nat_le}
use Rattle.std.proofs.lemmas.List.Sorted.{IsPartitionPoint-from_clause, IsPartitionedBy-leb}
use Rattle.wtf_kv.proofs.Sees.{non_decreasing, upto_front}
use Rattle.wtf_kv.proofs.rows.count_upto.Goals as goal

pub returns-clause-front : goal.returns-clause-front
returns-clause-front g c =
    let vs = c.args.versions.now in
    let point = IsPartitionPoint-from_clause (λ v. nat_le v.0 c.args.n) vs _ c.partition_point.ensures.partitioned (IsPartitionedBy-leb (λ v. v.0) vs c.args.n (non_decreasing vs c.requires)) (λ a r f' called. search rules) in
    upto_front c.args.n _ vs c.partition_point.ensures.bound point.0 point.1

pub returns-clause-holds : goal.returns-clause-holds
returns-clause-holds g c =
    let vs = c.args.versions.now in
    (IsPartitionPoint-from_clause (λ v. nat_le v.0 c.args.n) vs _ c.partition_point.ensures.partitioned (IsPartitionedBy-leb (λ v. v.0) vs c.args.n (non_decreasing vs c.requires)) (λ a r f' called. search rules)).0
