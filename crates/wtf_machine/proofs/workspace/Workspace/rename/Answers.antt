use Rattle.std.proofs.Common.{sym}
use Rattle.wtf_machine.specs.Sessions.{session_in}
use Rattle.wtf_model.proofs.NameLaws.{rename-refused, rename-busy, rename-no_target}
use Rattle.wtf_machine.proofs.NameWays.{file_there, rename_in}
use Rattle.wtf_machine.proofs.workspace.Workspace.rename.Goals as goal

pub returns-in-Err : goal.returns-in-Err
returns-in-Err c = λ cap. rename-refused cap (session_in c.args.self.now) c.args.p.now c.args.q.now _ c.in-Err.ensures.err

pub returns-then-has_on : goal.returns-then-has_on
returns-then-has_on c = λ cap. rename-busy cap (session_in c.args.self.now) c.args.p.now c.args.q.now _
    (file_there (session_in c.args.self.now) c.args.p.now _ _ _ _ c.in-Ok.ensures.ok c.in_ok-file-in-Ok.ensures) (sym c.if-has_on.ensures)

pub returns-in-Err-target : goal.returns-in-Err-target
returns-in-Err-target c = λ cap. rename-no_target cap (session_in c.args.self.now) c.args.p.now c.args.q.now _
    (file_there (session_in c.args.self.now) c.args.p.now _ _ _ _ c.in-Ok.ensures.ok c.in_ok-file-in-Ok.ensures)
    (sym c.if-has_on.ensures) _ (sym c.in-Err-target.ensures)

pub returns : goal.returns
returns c = λ cap. rename_in (session_in c.args.self.now) c.args.p.now _ _ _ _ c.in-Ok.ensures.ok c.in_ok-file-in-Ok.ensures cap _
    c.if-has_on.ensures c.args.q.now c.in_default.ensures c.in_ok-move_path.ensures
