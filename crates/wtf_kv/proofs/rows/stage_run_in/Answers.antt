use Rattle.std.proofs.Common.{◌∙◌, ap, inr}
use Rattle.wtf_kv.specs.Staging.{staged, run_made}
use Rattle.wtf_kv.proofs.Next.{cut-good, cut-same}
use Rattle.wtf_kv.proofs.Taken.{staged-kept, on_err_from}
use Rattle.wtf_kv.proofs.rows.stage_run_in.Goals as goal

pub stage_in-requires-clause-order : goal.stage_in-requires-clause-order
stage_in-requires-clause-order g c = (cut-good c.args.number _ _ c.take_next.ensures.kept (c.requires.order, c.requires.next)).0

pub returns-in_err-stage_in-clause-err : goal.returns-in_err-stage_in-clause-err
returns-in_err-stage_in-clause-err g c = on_err_from _ (inr (c.in_err-stage_in.ensures.err ∙ cut-same c.args.number _ _ c.take_next.ensures.kept))

pub returns-clause-ok : goal.returns-clause-ok
returns-clause-ok g c =
    let n = c.args.number in
    let vs = c.args.versions.now.items in
    c.in_ok-stage_in.ensures.ok
    ∙ staged-kept n c.apply_all.new.now vs _ c.take_next.ensures.kept
    ∙ ap (λ v. staged n v vs) (c.in_ok-fit.ensures.value ∙ ap (run_made g.C.Cell.outcome c.args.run.now) c.in_ok-value.ensures.value)
