use Rattle.std.proofs.Common.{ap, ◌∙◌, count_by}
use Rattle.wtf_lex.specs.Words.{is_space}
use Rattle.wtf_lex.proofs.WordLaws.{length-words_behind, some_behind}
use Rattle.wtf_script.proofs.counts.count_words.Goals as goal

pub returns : goal.returns
returns c =
    length-words_behind c.args.behind.now c.count_spaces.result (some_behind _ _ c.is_empty.ensures c.if-is_empty.false)
    (c.count_spaces.ensures.value ∙ ap (count_by is_space) c.split_at.ensures.back)
