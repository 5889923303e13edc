use Rattle.std.proofs.Common.{sym}
use Rattle.wtf_model.proofs.ByteLaws.{close-none}
use Rattle.wtf_machine.specs.Sessions.{session_in}
use Rattle.wtf_machine.proofs.HandleWays.{close_in}
use Rattle.wtf_machine.proofs.workspace.Workspace.close.Goals as goal

pub returns-in_default : goal.returns-in_default
returns-in_default c k = close-none k (session_in c.args.self.now) c.args.f (sym c.in_default.ensures)

pub returns : goal.returns
returns c k = close_in k (session_in c.args.self.now) c.args.f _ _ c.in-Some.ensures c.close.ensures
