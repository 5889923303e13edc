use Rattle.std.proofs.Common.{◌≡◌, true, false, refl}
use Rattle.wtf_kv.proofs.examples.next_pinned_is_one.Goals as goal

pub returns-clause-none : goal.returns-clause-none
returns-clause-none c = λ h. let bad : true ≡ false = h 5 refl in cc
