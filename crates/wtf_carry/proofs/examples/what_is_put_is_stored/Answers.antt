use Rattle.wtf_carry.proofs.StoreLaws.{put-is-stored}
use Rattle.wtf_carry.proofs.examples.what_is_put_is_stored.Goals as goal

pub returns : goal.returns
returns c = put-is-stored
