use Rattle.std.proofs.Common.{ap, ◌∙◌}
use Rattle.std.specs.Ordering.{nat_cmp}
use Rattle.std.specs.FinSet.{FinSet, remove}
use Rattle.wtf_machine.proofs.DownLaws.{takes}
use Rattle.wtf_machine.proofs.downs.Downs.take.Goals as goal

pub returns : goal.returns
returns c = takes _ _ c.args.k c.remove.ensures.updates.0 ∙ ap (λ (s : FinSet nat_cmp). remove s c.args.k) c.self.view_is
