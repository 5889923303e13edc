use Rattle.wtf_spillfmt.proofs.Lists.{round}
use Rattle.wtf_spillfmt.proofs.laws.what_was_encoded_is_decoded.Goals as goal

pub returns : goal.returns
returns c = λ region es wide compact within. round region es wide compact within
