use Rattle.std.proofs.Common.{ℕ, List, ap, ◌∙◌}
use Rattle.std.specs.Rc.{rc_slice_items}
use Rattle.std.specs.FinMap.{FinMap, insert, nat_cmp-IsAntisymmetric}
use Rattle.std.specs.Ordering.{nat_cmp}
use Rattle.std.specs.Cmp.{nat_cmp_total}
use Rattle.wtf_machine.proofs.MapLaws.{map_of-put}
use Rattle.wtf_machine.proofs.labels.Slices.set.Goals as goal

pub returns-in-Ok-clause-ok : goal.returns-in-Ok-clause-ok
returns-in-Ok-clause-ok c = map_of-put nat_cmp_total rc_slice_items nat_cmp-IsAntisymmetric _ _ c.args.label c.args.bytes c.in-Ok.ensures.updates.0
    ∙ ap (λ (m : FinMap nat_cmp (List ℕ)). insert m c.args.label (rc_slice_items c.args.bytes)) c.self.view_is
