use Rattle.std.proofs.Common.{sym}
use Rattle.wtf_model.proofs.ByteLaws.{tell-none, tell-open}
use Rattle.wtf_machine.specs.Sessions.{session_in}
use Rattle.wtf_machine.proofs.workspace.Workspace.tell.Goals as goal

pub returns-in-Some : goal.returns-in-Some
returns-in-Some c k = tell-open k (session_in c.args.self.now) c.args.f _ (sym c.in-Some.ensures)

pub returns-in-None : goal.returns-in-None
returns-in-None c k = tell-none k (session_in c.args.self.now) c.args.f (sym c.in-None.ensures)
