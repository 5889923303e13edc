use Rattle.std.proofs.Common.{sym}
use Rattle.wtf_model.proofs.ByteLaws.{punch-none}
use Rattle.wtf_machine.specs.Sessions.{session_in}
use Rattle.wtf_machine.proofs.HandleWays.{punch_in}
use Rattle.wtf_machine.proofs.workspace.Workspace.punch.Goals as goal

pub returns-in_default : goal.returns-in_default
returns-in_default c k = punch-none k (session_in c.args.self.now) c.args.f c.args.n (sym c.in_default.ensures)

pub returns : goal.returns
returns c k =
    punch_in k (session_in c.args.self.now) c.args.f _ c.in-Some.ensures _ c.bytes_on.ensures
    _ _ c.in_ok-path.ensures _ c.in_ok-put_bytes.ensures c.args.n c.in_ok-made.ensures
