use Rattle.std.proofs.lemmas.Result.{err_from_is_err_and}
use Rattle.wtf_print.proofs.Backs.{back-ok, back-err}
use Rattle.wtf_print.proofs.Formed.{form-ok}
use Rattle.wtf_print.proofs.parse.parse_answer.Goals as goal

pub returns-in_err-answer-clause-back : goal.returns-in_err-answer-clause-back
returns-in_err-answer-clause-back c = λ a h e.
    let p = err_from_is_err_and c.from_residual.result c.from_residual.ensures.1 in
    rw (p.1, p.2) (back-err _ c.args.line.now c.in_err-answer.ensures a h e)

pub returns-in_err-is_text_of-clause-back : goal.returns-in_err-is_text_of-clause-back
returns-in_err-is_text_of-clause-back c = λ a h e.
    let p = err_from_is_err_and c.from_residual-in_err-is_text_of.result c.from_residual-in_err-is_text_of.ensures.1 in
    rw (p.1, p.2) tt

pub returns-then-not-branch-clause-back : goal.returns-then-not-branch-clause-back
returns-then-not-branch-clause-back c = λ a h e.
    let is = c.in_ok-is_text_of.ensures.1 (back-ok c.in_ok-answer.answer c.args.line.now c.in_ok-answer.ensures a h e).1 in
    let not = c.if-not-branch.true in
    cc

pub returns-clause-form : goal.returns-clause-form
returns-clause-form c = form-ok c.in_ok-answer.answer c.args.line.now c.in_ok-answer.ensures

pub returns-clause-back : goal.returns-clause-back
returns-clause-back c = λ a h e. (back-ok c.in_ok-answer.answer c.args.line.now c.in_ok-answer.ensures a h e).0
