use Rattle.std.proofs.Common.{ap, ◌∙◌}
use Rattle.std.specs.FinMap.{insert}
use Rattle.wtf_machine.specs.Kept.{clients_in}
use Rattle.wtf_machine.proofs.ClientLaws.{becomes}
use Rattle.wtf_machine.proofs.SeenLaws.{open_new}
use Rattle.wtf_machine.proofs.clients.Clients.add.Goals as goal

pub returns-in-Ok-clause-ok : goal.returns-in-Ok-clause-ok
returns-in-Ok-clause-ok c =
    becomes c.args.self.now.changed.items _ c.args.c _ c.args.t c.in-Ok.ensures.updates.0
    ∙ ap (insert (clients_in c.args.self.now) c.args.c) (open_new c.args.self.now.changed.items c.args.t c.requires.since)
