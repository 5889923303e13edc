use Rattle.wtf_lex.proofs.WordLaws.{first-is_position}
use Rattle.wtf_lex.proofs.words.first_space.Goals as goal

pub returns : goal.returns
returns c = first-is_position c.args.text.now c.memchr.result c.memchr.ensures
