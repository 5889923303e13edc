use Rattle.std.proofs.Common.{sym, ◌∙◌}
use Rattle.wtf_healer.proofs.Faulting.{one_fault}
use Rattle.wtf_healer.proofs.Restoring.{restored_of}
use Rattle.wtf_healer.proofs.entries.restore_one.Goals as goal

pub returns-in-Err-clause-fault : goal.returns-in-Err-clause-fault
returns-in-Err-clause-fault g c =
    one_fault g.met.S.SliceStore.laws c.args.dev.now c.stored.new.dev c.args.e c.in-Err.why (sym c.is_sparse_part.ensures ∙ c.if-not-is_sparse_part.false)
    c.in-Err.ensures.fault

pub returns-in-Ok-clause-restored : goal.returns-in-Ok-clause-restored
returns-in-Ok-clause-restored g c =
    restored_of g.met.S.SliceStore.laws c.args.dev.now c.stored.new.dev c.args.key c.args.e c.of.result c.in-Ok.slice
    (sym c.is_sparse_part.ensures ∙ c.if-not-is_sparse_part.false) c.in-Ok.ensures.stored c.of.ensures.off c.of.ensures.len c.of.ensures.part
