use Rattle.std.proofs.Common.{◌∙◌}
use Rattle.std.proofs.lemmas.Result.{err_from_is_err_and}
use Rattle.wtf_spillfmt.proofs.Lists.{decoded_of, none_decoded, only_decoded}
use Rattle.wtf_spillfmt.proofs.decoding.decode.Goals as goal

pub returns-in_err-entries-clause-cause : goal.returns-in_err-entries-clause-cause
returns-in_err-entries-clause-cause c =
    let p = err_from_is_err_and c.from_residual.result c.from_residual.ensures.1 in
    rw (p.1, p.2) (none_decoded c.args.region c.args.bytes.now c.in_err-entries.field-0.0 c.in_err-entries.ensures.rows)

pub returns-in_err-list-clause-cause : goal.returns-in_err-list-clause-cause
returns-in_err-list-clause-cause c =
    let p = err_from_is_err_and c.from_residual-in_err-list.result c.from_residual-in_err-list.ensures.1 in
    rw (p.1, p.2) (only_decoded c.args.region c.args.bytes.now c.in_ok-entries.entries.items c.in_err-list.field-0.0 c.in_ok-entries.ensures.rows c.in_err-list.ensures)

pub returns-clause-list : goal.returns-clause-list
returns-clause-list c = decoded_of c.args.region c.args.bytes.now c.in_ok-entries.entries.items c.in_ok-entries.ensures.rows ∙ c.in_ok-list.ensures
