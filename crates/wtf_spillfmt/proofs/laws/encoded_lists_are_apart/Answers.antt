use Rattle.wtf_spillfmt.proofs.Lists.{apart}
use Rattle.wtf_spillfmt.proofs.laws.encoded_lists_are_apart.Goals as goal

pub returns : goal.returns
returns c = λ es fs rest wide its compact also is. apart es fs rest wide its compact also is
