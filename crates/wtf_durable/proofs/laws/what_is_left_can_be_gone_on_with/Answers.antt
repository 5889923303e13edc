use Rattle.wtf_durable.proofs.Finding.{left_opens}
use Rattle.wtf_durable.proofs.laws.what_is_left_can_be_gone_on_with.Goals as goal

pub returns : goal.returns
returns c = left_opens
