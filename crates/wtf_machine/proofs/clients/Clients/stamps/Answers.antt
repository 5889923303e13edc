use Rattle.wtf_machine.proofs.ScanWays.{stamps-clients}
use Rattle.wtf_machine.proofs.clients.Clients.stamps.Goals as goal

pub loop-t-init : goal.loop-t-init
loop-t-init c = stamps-clients c.args.self.now.changed.items _ _ c.iter-rest.ensures.rest c.iter-rest.ensures.ordered c.args.into.now.items
