use Rattle.std.proofs.Common.{sym, ap, ◌∙◌}
use Rattle.std.specs.Option.{option_map}
use Rattle.std.specs.Cmp.{nat_cmp_total}
use Rattle.wtf_machine.specs.Verdicts.{open_in}
use Rattle.wtf_machine.proofs.MapLaws.{get-map_of}
use Rattle.wtf_machine.proofs.clients.Clients.at.Goals as goal

pub returns-clause-value : goal.returns-clause-value
returns-clause-value c =
    ap (option_map (open_in c.args.self.now.changed.items)) c.get.ensures.value
    ∙ sym (get-map_of nat_cmp_total (open_in c.args.self.now.changed.items) c.args.self.now.items.entries c.args.c)
