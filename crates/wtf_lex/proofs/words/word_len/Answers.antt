use Rattle.std.proofs.Common.{length, ◌∙◌, ap, not, unwrap_or}
use Rattle.std.specs.List.{position_or_len}
use Rattle.std.proofs.lemmas.List.Sums.{prefix_len-le-length}
use Rattle.wtf_lex.specs.Words.{is_space}
use Rattle.wtf_lex.proofs.WordLaws.{first-or-end}
use Rattle.wtf_lex.proofs.words.word_len.Goals as goal

pub returns-clause-value : goal.returns-clause-value
returns-clause-value c =
    let text = c.args.text.now in
    c.unwrap_or.ensures ∙ ap (λ o. unwrap_or o (length text)) c.first_space.ensures ∙ first-or-end (position_or_len is_space text) (length text) (prefix_len-le-length (λ b. not (is_space b)) text)
