use Rattle.std.proofs.Common.{sym}
use Rattle.wtf_model.proofs.ByteLaws.{truncate-none, truncate-big}
use Rattle.wtf_machine.specs.Sessions.{session_in}
use Rattle.wtf_machine.proofs.HandleWays.{truncate_in}
use Rattle.wtf_machine.proofs.workspace.Workspace.truncate.Goals as goal

pub returns-in_default : goal.returns-in_default
returns-in_default c = truncate-none c.args.cap (session_in c.args.self.now) c.args.f c.args.n (sym c.in_default.ensures)

pub returns-then-n-cap : goal.returns-then-n-cap
returns-then-n-cap c = truncate-big c.args.cap (session_in c.args.self.now) c.args.f _ (sym c.in-Some.ensures) c.args.n c.if-n-cap.true

pub returns : goal.returns
returns c =
    truncate_in c.args.cap (session_in c.args.self.now) c.args.f _ c.in-Some.ensures _ c.bytes_on.ensures
    _ _ c.in_ok-path.ensures _ c.in_ok-put_bytes.ensures c.args.n c.if-n-cap.false c.in_ok-made.ensures
