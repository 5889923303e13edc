use Rattle.std.proofs.Common.{sym}
use Rattle.wtf_machine.specs.Sessions.{session_in}
use Rattle.wtf_model.proofs.NameLaws.{link-refused, link-no_target}
use Rattle.wtf_machine.proofs.NameWays.{file_there, link_in}
use Rattle.wtf_machine.proofs.workspace.Workspace.link.Goals as goal

pub returns-in-Err : goal.returns-in-Err
returns-in-Err c = λ cap. link-refused cap (session_in c.args.self.now) c.args.p.now c.args.q.now _ c.in-Err.ensures.err

pub returns-in-Err-target : goal.returns-in-Err-target
returns-in-Err-target c = λ cap. link-no_target cap (session_in c.args.self.now) c.args.p.now c.args.q.now _ _
    (file_there (session_in c.args.self.now) c.args.p.now _ _ _ _ c.in-Ok.ensures.ok c.in_ok-file-in-Ok.ensures)
    (sym c.in-Err-target.ensures)

pub returns : goal.returns
returns c = λ cap. link_in (session_in c.args.self.now) c.args.p.now _ _ _ _ c.in-Ok.ensures.ok c.in_ok-file-in-Ok.ensures cap _
    c.args.q.now c.in_default.ensures c.in_ok-add_path.ensures
