use Rattle.wtf_carry.proofs.StoreLaws.{put-is-got}
use Rattle.wtf_carry.proofs.examples.what_is_put_is_got.Goals as goal

pub returns : goal.returns
returns c = put-is-got
