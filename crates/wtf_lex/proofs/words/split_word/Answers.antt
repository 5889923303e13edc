use Rattle.wtf_lex.proofs.WordLaws.{words_of-first}
use Rattle.wtf_lex.proofs.words.split_word.Goals as goal

pub returns-clause-words : goal.returns-clause-words
returns-clause-words c =
    rw (c.split_at.ensures.front, c.split_at.ensures.back, c.word_len.ensures.value) (words_of-first c.args.text.now)
