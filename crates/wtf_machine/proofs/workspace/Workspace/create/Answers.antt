use Rattle.std.proofs.Common.{sym}
use Rattle.wtf_machine.specs.Sessions.{session_in}
use Rattle.wtf_model.proofs.CallLaws.{call-create_refused}
use Rattle.wtf_model.proofs.NameLaws.{create-done}
use Rattle.wtf_machine.proofs.workspace.Workspace.create.Goals as goal

pub returns-in-Err : goal.returns-in-Err
returns-in-Err c = λ cap. call-create_refused cap (session_in c.args.self.now) c.args.p.now _ (sym c.in-Err.ensures)

pub returns : goal.returns
returns c = λ cap. create-done cap (session_in c.args.self.now) c.args.p.now _ _ _
    (sym c.in_default.ensures) c.in_ok-p.ensures c.new.ensures.items c.in_ok-put_file.ensures
