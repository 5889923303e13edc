use Rattle.std.proofs.Common.{sym, ap, ◌∙◌}
use Rattle.std.specs.Option.{option_map}
use Rattle.std.specs.FinMap.{FinMap, get}
use Rattle.std.specs.Ordering.{nat_cmp}
use Rattle.std.specs.Cmp.{nat_cmp_total}
use Rattle.wtf_model.specs.Session.{Handle}
use Rattle.wtf_machine.specs.Maps.{handle_of}
use Rattle.wtf_machine.proofs.MapLaws.{get-map_of}
use Rattle.wtf_machine.proofs.labels.Handles.at.Goals as goal

pub returns : goal.returns
returns c = ap (option_map handle_of) c.get.ensures.value ∙ sym (get-map_of nat_cmp_total handle_of _ c.args.f)
    ∙ ap (λ (m : FinMap nat_cmp Handle). get m c.args.f) c.self.view_is
