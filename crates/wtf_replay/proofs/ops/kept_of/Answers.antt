use Rattle.std.proofs.Common.{sym, subst}
use Rattle.wtf_model.specs.Form.{IsFormOp, IsKeptData}
use Rattle.wtf_replay.specs.Keeps.{IsKeptOf}
use Rattle.wtf_replay.proofs.OpLaws.{with_kept, with_form}
use Rattle.wtf_replay.proofs.ops.kept_of.Goals as goal

pub returns-clause-kept : goal.returns-clause-kept
returns-clause-kept c = subst (λ k. IsKeptOf c.args.op c.args.own k) (sym c.keeping.ensures)
    (with_kept c.kept_for-kept.result c.args.op c.args.own c.kept_for-kept.ensures.len c.kept_for-kept.ensures.slice)

pub returns-clause-form : goal.returns-clause-form
returns-clause-form c = subst (λ k. IsFormOp IsKeptData k) (sym c.keeping.ensures)
    (with_form c.kept_for-kept.result c.args.op c.kept_for-kept.ensures.len c.requires.form)
