use Rattle.std.proofs.Common.{sym}
use Rattle.wtf_model.proofs.ByteLaws.{seek-none}
use Rattle.wtf_machine.specs.Sessions.{session_in}
use Rattle.wtf_machine.proofs.HandleWays.{seek_in, seek_out}
use Rattle.wtf_machine.proofs.workspace.Workspace.seek.Goals as goal

pub returns-in_default : goal.returns-in_default
returns-in_default c = seek-none c.args.cap (session_in c.args.self.now) c.args.f c.args.place (sym c.in_default.ensures)

pub returns-in_default-landing : goal.returns-in_default-landing
returns-in_default-landing c =
    seek_out c.args.cap (session_in c.args.self.now) c.args.f _ c.in-Some.ensures _ c.bytes_on.ensures
    c.args.place c.in_default-landing.ensures

pub returns : goal.returns
returns c =
    seek_in c.args.cap (session_in c.args.self.now) c.args.f _ c.in-Some.ensures _ c.bytes_on.ensures
    c.args.place _ _ _ c.in-Some-landing.ensures c.in_ok-path.ensures c.in_ok-set.ensures.ok
