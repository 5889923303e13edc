use Rattle.std.proofs.Common.{ap, ◌∙◌}
use Rattle.std.specs.Ordering.{nat_cmp}
use Rattle.wtf_machine.specs.Maps.{map_of}
use Rattle.wtf_machine.specs.Verdicts.{open_in}
use Rattle.wtf_machine.proofs.SeenLaws.{grown, clients_more}
use Rattle.wtf_machine.proofs.clients.Clients.touch.Goals as goal

pub returns-clause-is : goal.returns-clause-is
returns-clause-is c =
    let k = c.args.self.now in
    ap (λ l. map_of nat_cmp (open_in l) k.items.entries) (grown c.append-room.result _ k.changed.items c.args.items.items
    (c.append-room.ensures.succeeds c.requires.room) c.append-room.ensures.items)
    ∙ clients_more k.changed.items c.args.items.items k.items.entries k.within
