use Rattle.std.proofs.Common.{Ok, sym, ap, ◌∙◌}
use Rattle.std.proofs.lemmas.Result.{err_from_is_err_and}
use Rattle.wtf_lex.specs.Words.{words_behind}
use Rattle.wtf_script.specs.Arguments.{paths_of}
use Rattle.wtf_script.proofs.PathLaws.{with_front, front-nil, paths-more, paths-none, paths-err}
use Rattle.wtf_script.proofs.args.paths_of.Goals as goal

pub loop-word-init : goal.loop-word-init
loop-word-init c = rw c.new-paths.ensures.items (front-nil (paths_of (words_behind c.args.words.now)))

pub loop-word-preserved : goal.loop-word-preserved
loop-word-preserved c =
    let front = c.loop-word.paths.items in
    ap (λ ps. with_front ps (paths_of (words_behind c.in-Some.more.now))) c.in_ok-push.ensures.items
    ∙ paths-more front c.in-Some.word.now c.in_ok-path_of.field-0 (words_behind c.in-Some.more.now) c.in_ok-path_of.ensures
    ∙ ap (λ ws. with_front front (paths_of ws)) (sym c.in-Some.ensures.words) ∙ c.loop-word.invariant

pub returns-in_err-path_of : goal.returns-in_err-path_of
returns-in_err-path_of c =
    let p = err_from_is_err_and c.from_residual.result c.from_residual.ensures.1 in
    rw (p.1, p.2) (paths-err c.loop-word.paths.items c.in-Some.word.now (words_behind c.in-Some.more.now) _ _
    (ap (λ ws. with_front c.loop-word.paths.items (paths_of ws)) (sym c.in-Some.ensures.words) ∙ c.loop-word.invariant) c.in_err-path_of.ensures)

pub returns : goal.returns
returns c =
    sym c.loop-word.invariant
    ∙ ap (λ ws. with_front c.loop-word.paths.items (paths_of ws)) c.in_default.ensures.words
    ∙ paths-none c.loop-word.paths.items ∙ ap (λ ps. Ok ps) (sym c.of.ensures)
