use Rattle.wtf_model.proofs.Worked.{overwrite}
use Rattle.wtf_model.proofs.examples.overwrite_is_accepted.Goals as goal

pub returns : goal.returns
returns c = overwrite
