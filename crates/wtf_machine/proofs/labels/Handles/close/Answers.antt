use Rattle.std.proofs.Common.{ap, ◌∙◌}
use Rattle.std.specs.FinMap.{FinMap, remove, nat_cmp-IsAntisymmetric}
use Rattle.std.specs.Ordering.{nat_cmp}
use Rattle.std.specs.Cmp.{nat_cmp_total}
use Rattle.wtf_model.specs.Session.{Handle}
use Rattle.wtf_machine.specs.Maps.{handle_of}
use Rattle.wtf_machine.proofs.MapLaws.{map_of-take}
use Rattle.wtf_machine.proofs.labels.Handles.close.Goals as goal

pub returns : goal.returns
returns c = map_of-take nat_cmp_total handle_of nat_cmp-IsAntisymmetric _ _ c.args.f c.remove.ensures.updates.0
    ∙ ap (λ (m : FinMap nat_cmp Handle). remove m c.args.f) c.self.view_is
