use Rattle.std.proofs.Common.{sym, subst}
use Rattle.wtf_overlay.specs.Clips.{Within}
use Rattle.wtf_overlay.proofs.Clipping.{Within-nil}
use Rattle.wtf_values.proofs.region.RegionValue.empty.Goals as goal

pub invariant_of-result-clause-within : goal.invariant_of-result-clause-within
invariant_of-result-clause-within c = subst (Within 0) (sym c.in_ok-list.ensures) (Within-nil 0)
