use Rattle.std.proofs.Common.{refl}
use Rattle.wtf_model.specs.Steps.{Accepts}
use Rattle.wtf_model.proofs.machine_examples.runs_are_whole.Goals as goal

pub returns : goal.returns
unfolding Accepts
returns c = record { too_few = λ m e es h. h; too_many = λ m a answers h. h; saved = λ settings number tree. refl; base = λ settings number tree. refl }
