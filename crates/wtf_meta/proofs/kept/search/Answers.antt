use Rattle.std.proofs.Common.{ℕ, nat_le, rules}
use Rattle.std.proofs.lemmas.List.Sorted.{IsPartitionPoint-from_clause, IsPartitionedBy-leb}
use Rattle.wtf_meta.proofs.Ends.{ends_rise, ends_before}
use Rattle.wtf_meta.proofs.kept.search.Goals as goal

pub returns : goal.returns
returns c =
    let ps = c.args.pieces.now in
    let ends = c.args.ends.now in
    let count = c.partition_point-count in
    let parted = IsPartitionedBy-leb (λ (n : ℕ). n) ends c.args.off (ends_rise ps ends c.requires.ends) in
    let point = IsPartitionPoint-from_clause (λ (n : ℕ). nat_le n c.args.off) ends count.result count.ensures.partitioned parted
    (λ a r f called. search rules) in
    ends_before ps ends c.args.off count.result c.end_before-start.result c.requires.ends c.requires.off count.ensures.bound point c.end_before-start.ensures
