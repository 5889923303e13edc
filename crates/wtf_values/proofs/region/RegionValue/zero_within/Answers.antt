use Rattle.std.proofs.Common.{◌≡◌, ◌-◌, ap, subst, IfOk, arith, ◌∙◌}
use Rattle.wtf_values.specs.declared.region.RegionValue.{RegionValue}
use Rattle.wtf_values.proofs.RegionLaws.{zeroed_in-entry}
use Rattle.wtf_values.proofs.region.RegionValue.zero_within.Goals as goal

pub returns : goal.returns
returns c =
    subst (λ (w : RegionValue). IfOk c.push.result (λ v. v ≡ w))
    (zeroed_in-entry c.args.from c.args.upto c.args.self c.of.result (omega (arith, c.min-upto.ensures)) (omega (arith, c.ranges.upto.fits)) c.of.ensures.off
    (c.of.ensures.len ∙ ap (λ n. n - c.args.from) c.min-upto.ensures) c.of.ensures.part) c.push.ensures
