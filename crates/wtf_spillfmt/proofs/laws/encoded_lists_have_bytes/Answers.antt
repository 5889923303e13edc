use Rattle.wtf_spillfmt.proofs.Lists.{some_bytes}
use Rattle.wtf_spillfmt.proofs.laws.encoded_lists_have_bytes.Goals as goal

pub returns : goal.returns
returns c = λ es. some_bytes es
