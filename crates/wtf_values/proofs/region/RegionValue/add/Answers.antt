use Rattle.std.proofs.Common.{◌≡◌, subst, IfOk}
use Rattle.wtf_values.specs.declared.region.RegionValue.{RegionValue}
use Rattle.wtf_values.proofs.RegionLaws.{with_piece-entry}
use Rattle.wtf_values.proofs.region.RegionValue.add.Goals as goal

pub returns-clause-value : goal.returns-clause-value
returns-clause-value c =
    subst (λ (w : RegionValue). IfOk c.push.result (λ v. v ≡ w))
    (with_piece-entry c.args.self c.args.piece.now c.of-e.result c.requires c.of-e.ensures.off c.of-e.ensures.len c.of-e.ensures.part) c.push.ensures
