use Rattle.std.proofs.Common.{rules, tests}
use Rattle.std.proofs.lemmas.Iterator.Search.{any_from_yields_List}
use Rattle.std.proofs.lemmas.Iterator.Splits.{YieldsList-from_slice_split}
use Rattle.wtf_lex.specs.Words.{is_space}
use Rattle.wtf_script.specs.Grammar.{is_empty_word}
use Rattle.wtf_script.proofs.parse.has_empty_word.Goals as goal

pub returns : goal.returns
returns c =
    any_from_yields_List is_empty_word _ _ _ c.any.ensures.ran
    (YieldsList-from_slice_split _ is_space c.args.line.now c.split.ensures.rest c.split.ensures.done c.split.ensures.closure (λ x r q k. search (rules, tests)))
    (λ x b q k. search (rules, tests))
