use Rattle.wtf_healer.proofs.Unharmed.{all_live}
use Rattle.wtf_healer.proofs.examples.all_is_left.Goals as goal

pub returns : goal.returns
returns c told bytes t within h = all_live told bytes t within h
