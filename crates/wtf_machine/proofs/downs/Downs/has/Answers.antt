use Rattle.std.proofs.Common.{sym, ap, ◌∙◌}
use Rattle.std.specs.Ordering.{nat_cmp}
use Rattle.std.specs.FinSet.{FinSet, contains}
use Rattle.wtf_machine.proofs.DownLaws.{has_key}
use Rattle.wtf_machine.proofs.downs.Downs.has.Goals as goal

pub returns : goal.returns
returns c = c.contains.ensures ∙ sym (has_key _ c.args.k) ∙ ap (λ (s : FinSet nat_cmp). contains s c.args.k) c.self.view_is
