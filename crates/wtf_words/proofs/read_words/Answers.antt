use Rattle.wtf_words.proofs.Asking.{none_asked}
use Rattle.wtf_words.proofs.read_words.Goals as goal

pub returns-in-Err-clause-refused : goal.returns-in-Err-clause-refused
returns-in-Err-clause-refused c = λ is. none_asked _ _ (c.in-Err.ensures.refused is)
