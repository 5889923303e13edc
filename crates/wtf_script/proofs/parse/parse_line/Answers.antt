use Rattle.wtf_lex.specs.Words.{words_behind}
use Rattle.wtf_script.specs.Grammar.{event_asked}
use Rattle.wtf_script.proofs.FormLaws.{asked_form, given_form}
use Rattle.wtf_script.proofs.parse.parse_line.Goals as goal

pub returns-clause-form : goal.returns-clause-form
returns-clause-form c =
    let behind = words_behind c.split_word.result.1.now in
    let actor = c.split_word.result.0.now in
    given_form c.asked_of.result (event_asked actor behind) c.asked_of.ensures (asked_form actor behind)
