use Rattle.std.proofs.Common.{sym, ◌∙◌}
use Rattle.wtf_overlay.specs.declared.part.Entry.{Entry}
use Rattle.wtf_replica.specs.Downs.{is_down}
use Rattle.wtf_healer.specs.Sparse.{is_sparse_part}
use Rattle.wtf_healer.proofs.Walks.{any_more, any_here}
use Rattle.wtf_healer.proofs.sparse.has_sparse.Goals as goal

pub loop-i-preserved : goal.loop-i-preserved
loop-i-preserved c =
    any_more (λ (e : Entry). is_sparse_part (is_down c.args.replicas.now) c.args.copies e.part) c.args.list.now c.loop-i.i c.get-e.result c.get-e.ensures
    (sym c.is_sparse_part.ensures ∙ c.if-is_sparse_part.false) c.loop-i.invariant

pub returns-then-is_sparse_part : goal.returns-then-is_sparse_part
returns-then-is_sparse_part c =
    sym (any_here (λ (e : Entry). is_sparse_part (is_down c.args.replicas.now) c.args.copies e.part) c.args.list.now c.loop-i.i c.get-e.result c.get-e.ensures
    (sym c.is_sparse_part.ensures ∙ c.if-is_sparse_part.true))
