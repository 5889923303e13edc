use Rattle.std.proofs.Common.{ap, ◌∙◌}
use Rattle.std.specs.FinMap.{FinMap, insert, nat_cmp-IsAntisymmetric}
use Rattle.std.specs.Ordering.{nat_cmp}
use Rattle.std.specs.Cmp.{nat_cmp_total}
use Rattle.wtf_model.specs.Session.{Handle}
use Rattle.wtf_machine.specs.Maps.{handle_of}
use Rattle.wtf_machine.proofs.MapLaws.{map_of-put}
use Rattle.wtf_machine.proofs.labels.Handles.set.Goals as goal

pub returns-in-Ok-clause-ok : goal.returns-in-Ok-clause-ok
returns-in-Ok-clause-ok c = map_of-put nat_cmp_total handle_of nat_cmp-IsAntisymmetric _ _ c.args.f c.args.handle c.in-Ok.ensures.updates.0
    ∙ ap (λ (m : FinMap nat_cmp Handle). insert m c.args.f (handle_of c.args.handle)) c.self.view_is
