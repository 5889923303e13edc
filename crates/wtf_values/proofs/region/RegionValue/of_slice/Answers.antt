use Rattle.std.proofs.Common.{sym, subst}
use Rattle.wtf_overlay.specs.Clips.{Within}
use Rattle.wtf_overlay.proofs.Clipping.{Within-nil}
use Rattle.wtf_values.proofs.region.RegionValue.of_slice.Goals as goal

pub invariant_of-result-clause-within : goal.invariant_of-result-clause-within
invariant_of-result-clause-within c = subst (Within c.args.end) (sym c.in_ok-list.ensures) (Within-nil c.args.end)
