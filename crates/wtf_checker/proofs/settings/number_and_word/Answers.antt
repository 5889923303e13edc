use Rattle.std.proofs.Common.{◌≡◌, ◌∷◌, decimal, arith}
use Rattle.wtf_lex.specs.Words.{words_behind}
use Rattle.wtf_checker.proofs.SettingsLaws.{tail_is, head_is, none_is, number_here}
use Rattle.wtf_checker.proofs.settings.number_and_word.Goals as goal

pub returns-in_default-clause-spelled : goal.returns-in_default-clause-spelled
returns-in_default-clause-spelled c = λ n key ws h e. none_is (decimal n) (key ∷ ws) (words_behind c.args.behind.now) c.in_default.ensures.words e

pub returns-in_default-number_within-clause-spelled : goal.returns-in_default-number_within-clause-spelled
returns-in_default-number_within-clause-spelled c = λ n key ws h e.
    let is = number_here c.args.most n c.in-Some.word.now (omega (arith, c.ranges.most.fits)) h
    (head_is c.in-Some.word.now (decimal n) _ (key ∷ ws) (words_behind c.args.behind.now) c.in-Some.ensures.words e) in
    let none = c.in_default-number_within.ensures.value in
    absurd cc

pub returns-in_default-next_word-clause-spelled : goal.returns-in_default-next_word-clause-spelled
returns-in_default-next_word-clause-spelled c = λ n key ws h e.
    none_is key ws (words_behind c.in-Some.behind.now) c.in_default-next_word.ensures.words
    (tail_is c.in-Some.word.now (decimal n) _ (key ∷ ws) (words_behind c.args.behind.now) c.in-Some.ensures.words e)

pub returns-clause-spelled : goal.returns-clause-spelled
returns-clause-spelled c = λ n key ws h e.
    let is = number_here c.args.most n c.in-Some.word.now (omega (arith, c.ranges.most.fits)) h
    (head_is c.in-Some.word.now (decimal n) _ (key ∷ ws) (words_behind c.args.behind.now) c.in-Some.ensures.words e) in
    let read = c.in-Some-number_within.ensures.value in
    let same : c.in-Some-number_within.number ≡ n = cc in (
      same,
      tail_is c.in-Some-next_word.field-0-0.now key _ ws (words_behind c.in-Some.behind.now) c.in-Some-next_word.ensures.words
          (tail_is c.in-Some.word.now (decimal n) _ (key ∷ ws) (words_behind c.args.behind.now) c.in-Some.ensures.words e),
    )
