use Rattle.std.proofs.Common.{ap, ◌∙◌}
use Rattle.std.specs.Ordering.{nat_cmp}
use Rattle.std.specs.FinSet.{FinSet, insert}
use Rattle.wtf_machine.proofs.DownLaws.{adds}
use Rattle.wtf_machine.proofs.downs.Downs.add.Goals as goal

pub returns-in-Ok-clause-ok : goal.returns-in-Ok-clause-ok
returns-in-Ok-clause-ok c = adds _ _ c.args.k c.in-Ok.ensures.updates.0 ∙ ap (λ (s : FinSet nat_cmp). insert s c.args.k) c.self.view_is
