use Rattle.std.proofs.Common.{sym}
use Rattle.wtf_machine.specs.Sessions.{session_in}
use Rattle.wtf_model.proofs.NameLaws.{unlink-refused, unlink-busy}
use Rattle.wtf_machine.proofs.NameWays.{file_there, unlink_in}
use Rattle.wtf_machine.proofs.workspace.Workspace.unlink.Goals as goal

pub returns-in-Err : goal.returns-in-Err
returns-in-Err c = λ cap. unlink-refused cap (session_in c.args.self.now) c.args.p.now _ c.in-Err.ensures.err

pub returns-then-has_on : goal.returns-then-has_on
returns-then-has_on c = λ cap. unlink-busy cap (session_in c.args.self.now) c.args.p.now _
    (file_there (session_in c.args.self.now) c.args.p.now _ _ _ _ c.in-Ok.ensures.ok c.in_ok-file-in-Ok.ensures) (sym c.if-has_on.ensures)

pub returns : goal.returns
returns c = λ cap. unlink_in (session_in c.args.self.now) c.args.p.now _ _ _ _ c.in-Ok.ensures.ok c.in_ok-file-in-Ok.ensures cap _ c.if-has_on.ensures
    c.in_ok-drop_path.ensures
