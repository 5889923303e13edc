use Rattle.std.proofs.Common.{sym, subst}
use Rattle.wtf_rw.specs.declared.op.RwOp.{RwOp}
use Rattle.wtf_rw.specs.Ops.{RwBytes}
use Rattle.wtf_files_rows.proofs.ops.is_fresh.Goals as goal

pub returns-in-Write-clause-bytes : goal.returns-in-Write-clause-bytes
returns-in-Write-clause-bytes c = λ is P. subst (λ (o : RwOp). RwBytes P o) (sym c.in-Write.is) (c.is_own.ensures.bytes is P)

pub returns-in-Append-clause-bytes : goal.returns-in-Append-clause-bytes
returns-in-Append-clause-bytes c = λ is P. subst (λ (o : RwOp). RwBytes P o) (sym c.in-Append.is) (c.is_own-in-Append.ensures.bytes is P)
