use Rattle.wtf_model.proofs.Worked.{gap}
use Rattle.wtf_model.proofs.examples.gap_is_zeros.Goals as goal

pub returns : goal.returns
returns c = gap
