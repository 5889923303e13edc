use Rattle.std.proofs.Common.{map, sym, ap, ◌∙◌}
use Rattle.std.specs.List.{list_any}
use Rattle.std.specs.FinMap.{FinMap, values}
use Rattle.std.specs.Ordering.{nat_cmp}
use Rattle.std.specs.Cmp.{nat_cmp_total}
use Rattle.wtf_model.specs.Session.{Handle}
use Rattle.wtf_model.specs.Done.{is_on}
use Rattle.wtf_machine.specs.Maps.{handle_of}
use Rattle.wtf_machine.proofs.OrderedLaws.{values-map_of}
use Rattle.wtf_machine.proofs.labels.Handles.has_on.Goals as goal

pub loop-handle-init : goal.loop-handle-init
loop-handle-init c =
    ap (list_any (is_on c.args.path.now))
    (ap (map (λ e. handle_of e.1)) c.iter-rest.ensures.rest ∙ sym (values-map_of nat_cmp_total handle_of _ c.iter-rest.ensures.ordered)
    ∙ ap (λ (m : FinMap nat_cmp Handle). values m) c.self.view_is)
