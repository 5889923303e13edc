use Rattle.wtf_carry.proofs.RunLaws.{read-is-got}
use Rattle.wtf_carry.proofs.examples.what_is_read_is_got.Goals as goal

pub returns : goal.returns
returns c = read-is-got
