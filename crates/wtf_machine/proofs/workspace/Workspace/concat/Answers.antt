use Rattle.std.proofs.Common.{sym, ◌<◌, ◌≤◌, length, arith}
use Rattle.wtf_machine.specs.Sessions.{session_in}
use Rattle.wtf_machine.proofs.SliceWays.{concat-no_target, concat-no_source, concat-long, concat-made}
use Rattle.wtf_machine.proofs.workspace.Workspace.concat.Goals as goal

pub returns-in-Err : goal.returns-in-Err
returns-in-Err c = concat-no_target c.args.cap (session_in c.args.self.now) c.args.q.now c.args.paths.now (sym c.in-Err.ensures)

pub returns-in-Err-2 : goal.returns-in-Err-2
returns-in-Err-2 c =
    concat-no_source c.args.cap (session_in c.args.self.now) c.args.q.now c.args.paths.now (sym c.in_default.ensures) c.as_slice.ensures
    (rw c.in-Err-2.is at c.in_ok-bytes.ensures.err)

pub returns-then-len-cap : goal.returns-then-len-cap
returns-then-len-cap c =
    let past : c.args.cap < length c.in-Ok.bytes.items = omega arith in
    concat-long c.args.cap (session_in c.args.self.now) c.args.q.now c.args.paths.now (sym c.in_default.ensures) c.as_slice.ensures
    (rw c.in-Ok.is at c.in_ok-bytes.ensures.ok) past

pub returns : goal.returns
returns c =
    let fit : length c.in-Ok.bytes.items ≤ c.args.cap = omega arith in
    concat-made c.args.cap (session_in c.args.self.now) c.args.q.now c.args.paths.now (sym c.in_default.ensures) c.as_slice.ensures
    (rw c.in-Ok.is at c.in_ok-bytes.ensures.ok) fit c.in_ok-q.ensures c.in_ok-put_file.ensures
