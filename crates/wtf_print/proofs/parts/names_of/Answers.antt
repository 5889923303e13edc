use Rattle.std.proofs.Common.{Some, sym, ap, ◌∙◌}
use Rattle.std.proofs.lemmas.Result.{err_from_is_err_and}
use Rattle.wtf_lex.specs.Words.{words_behind}
use Rattle.wtf_print.specs.Pieces.{each_of, name_of}
use Rattle.wtf_print.proofs.Lists.{with_front, front-nil, each-more, each-none, each-err}
use Rattle.wtf_print.proofs.parts.names_of.Goals as goal

pub loop-word-init : goal.loop-word-init
loop-word-init c = rw c.new-names.ensures.items (front-nil (each_of name_of (words_behind c.args.words.now)))

pub loop-word-preserved : goal.loop-word-preserved
loop-word-preserved c =
    let front = c.loop-word.names.items in
    ap (λ xs. with_front xs (each_of name_of (words_behind c.in-Some.more.now))) c.in_ok-push.ensures.items
    ∙ each-more name_of front c.in-Some.word.now c.in_ok-name_of.field-0 (words_behind c.in-Some.more.now) c.in_ok-name_of.ensures
    ∙ ap (λ ws. with_front front (each_of name_of ws)) (sym c.in-Some.ensures.words) ∙ c.loop-word.invariant

pub returns-in_err-name_of : goal.returns-in_err-name_of
returns-in_err-name_of c =
    let p = err_from_is_err_and c.from_residual.result c.from_residual.ensures.1 in
    rw (p.1, p.2) (each-err name_of c.loop-word.names.items c.in-Some.word.now (words_behind c.in-Some.more.now) _ _
    (ap (λ ws. with_front c.loop-word.names.items (each_of name_of ws)) (sym c.in-Some.ensures.words) ∙ c.loop-word.invariant) c.in_err-name_of.ensures)

pub returns : goal.returns
returns c =
    sym c.loop-word.invariant
    ∙ ap (λ ws. with_front c.loop-word.names.items (each_of name_of ws)) c.in_default.ensures.words
    ∙ each-none name_of c.loop-word.names.items ∙ ap (λ xs. Some xs) (sym c.of.ensures)
