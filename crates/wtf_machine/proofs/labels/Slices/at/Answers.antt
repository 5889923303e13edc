use Rattle.std.proofs.Common.{ℕ, List, sym, ap, ◌∙◌}
use Rattle.std.specs.Option.{option_map}
use Rattle.std.specs.Rc.{rc_slice_items}
use Rattle.std.specs.FinMap.{FinMap, get}
use Rattle.std.specs.Ordering.{nat_cmp}
use Rattle.std.specs.Cmp.{nat_cmp_total}
use Rattle.wtf_machine.proofs.MapLaws.{get-map_of}
use Rattle.wtf_machine.proofs.labels.Slices.at.Goals as goal

pub returns : goal.returns
returns c = ap (option_map rc_slice_items) c.get.ensures.value ∙ sym (get-map_of nat_cmp_total rc_slice_items _ c.args.label)
    ∙ ap (λ (m : FinMap nat_cmp (List ℕ)). get m c.args.label) c.self.view_is
