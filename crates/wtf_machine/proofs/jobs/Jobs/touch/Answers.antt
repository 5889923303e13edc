use Rattle.std.proofs.Common.{ap, ◌∙◌}
use Rattle.std.specs.Ordering.{nat_cmp}
use Rattle.wtf_machine.specs.Maps.{map_of}
use Rattle.wtf_machine.specs.Kept.{planned_in}
use Rattle.wtf_machine.proofs.SeenLaws.{grown, jobs_more}
use Rattle.wtf_machine.proofs.jobs.Jobs.touch.Goals as goal

pub returns : goal.returns
returns c =
    let k = c.args.self.now in
    ap (λ l. map_of nat_cmp (planned_in l) k.items.entries) (grown c.append-room.result _ k.changed.items c.args.items.items
    (c.append-room.ensures.succeeds c.requires.room) c.append-room.ensures.items)
    ∙ jobs_more k.changed.items c.args.items.items k.items.entries k.within
