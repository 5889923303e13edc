use Rattle.std.proofs.Common.{sym}
use Rattle.wtf_machine.specs.Sessions.{session_in}
use Rattle.wtf_model.proofs.NameLaws.{stat-none, stat-some}
use Rattle.wtf_machine.proofs.workspace.Workspace.stat.Goals as goal

pub returns-in_default : goal.returns-in_default
returns-in_default c = λ cap. stat-none cap (session_in c.args.self.now) c.args.p.now (sym c.in_default.ensures)

pub returns : goal.returns
returns c = λ cap. stat-some cap (session_in c.args.self.now) c.args.p.now _ _ (sym c.in-Some.ensures) c.shown_node.ensures
