use Rattle.std.proofs.Common.{sym}
use Rattle.wtf_machine.specs.Sessions.{session_in}
use Rattle.wtf_machine.proofs.SliceWays.{copy-no_source, copy-no_target, copy-made}
use Rattle.wtf_machine.proofs.workspace.Workspace.copy.Goals as goal

pub returns-in-Err : goal.returns-in-Err
returns-in-Err c cap = copy-no_source cap (session_in c.args.self.now) c.args.p.now c.args.q.now c.in-Err.ensures.err

pub returns-in-Err-target : goal.returns-in-Err-target
returns-in-Err-target c cap = copy-no_target cap (session_in c.args.self.now) c.args.p.now c.args.q.now c.in-Ok.ensures.ok (sym c.in-Err-target.ensures)

pub returns : goal.returns
returns c cap =
    copy-made cap (session_in c.args.self.now) c.args.p.now c.args.q.now c.in-Ok.ensures.ok (sym c.in_default.ensures) c.in_ok-bytes.ensures.items
    c.in_ok-q.ensures c.in_ok-put_file.ensures
