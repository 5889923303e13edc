use Rattle.std.proofs.Common.{arith, sym}
use Rattle.wtf_model.proofs.ByteLaws.{append-none}
use Rattle.wtf_machine.specs.Sessions.{session_in}
use Rattle.wtf_machine.proofs.HandleWays.{append_in, append_out}
use Rattle.wtf_machine.proofs.workspace.Workspace.append.Goals as goal

pub returns-in_default : goal.returns-in_default
returns-in_default c = append-none c.args.cap (session_in c.args.self.now) c.args.f c.args.bytes.now (sym c.in_default.ensures)

pub returns-in_default-end_within : goal.returns-in_default-end_within
returns-in_default-end_within c =
    append_out c.args.cap (session_in c.args.self.now) c.args.f _ c.in-Some.ensures _ c.bytes_on-old.ensures
    c.args.bytes.now c.in_default-end_within.ensures.none

pub returns : goal.returns
returns c =
    append_in c.args.cap (session_in c.args.self.now) c.args.f _ c.in-Some.ensures _ c.bytes_on-old.ensures
    _ _ c.in_ok-path.ensures _ c.in_ok-put_bytes.ensures c.args.bytes.now (omega (arith, c.in-Some-end_within.ensures.some)) c.in_ok-made.ensures
