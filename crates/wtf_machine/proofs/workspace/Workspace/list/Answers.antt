use Rattle.std.proofs.Common.{sym}
use Rattle.wtf_machine.specs.Sessions.{session_in}
use Rattle.wtf_model.proofs.NameLaws.{list-refused, list-done}
use Rattle.wtf_machine.proofs.workspace.Workspace.list.Goals as goal

pub returns-in-Err : goal.returns-in-Err
returns-in-Err c = λ cap. list-refused cap (session_in c.args.self.now) c.args.p.now _ (sym c.in-Err.ensures)

pub returns : goal.returns
returns c = λ cap. list-done cap (session_in c.args.self.now) c.args.p.now _ (sym c.in_default.ensures) c.in_ok-names_in.ensures
