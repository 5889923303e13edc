use Rattle.std.proofs.Common.{sym, subst}
use Rattle.wtf_overlay.specs.Clips.{Within}
use Rattle.wtf_overlay.proofs.Clipping.{Within-clip}
use Rattle.wtf_values.specs.Bases.{IsBelow, IsBelow-cut}
use Rattle.wtf_values.proofs.region.RegionValue.clip.Goals as goal

pub invariant_of-result-clause-within : goal.invariant_of-result-clause-within
invariant_of-result-clause-within c = subst (Within c.args.end) (sym c.in_ok-clip.ensures.ok) (Within-clip c.args.end c.args.self.list)

pub invariant_of-result-clause-below : goal.invariant_of-result-clause-below
invariant_of-result-clause-below c = subst (IsBelow c.args.end) (sym c.base_cut.ensures) (IsBelow-cut c.args.end c.args.self.base)
