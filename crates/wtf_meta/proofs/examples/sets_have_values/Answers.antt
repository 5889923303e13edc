use Rattle.wtf_meta.proofs.SetBytes.{set_has}
use Rattle.wtf_meta.proofs.examples.sets_have_values.Goals as goal

pub returns : goal.returns
returns c = set_has
