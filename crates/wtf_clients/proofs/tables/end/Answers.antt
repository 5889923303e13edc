use Rattle.wtf_clients.proofs.Lists.{sets_taken}
use Rattle.wtf_clients.proofs.tables.end.Goals as goal

pub returns-in-Some-clause-clients : goal.returns-in-Some-clause-clients
returns-in-Some-clause-clients c =
    sets_taken c.args.c c.args.clients.now.entries c.shift_remove.new.self.entries c.shift_remove.ensures.entries c.shift_remove.ensures.updates.0
