use Rattle.std.proofs.Common.{sym}
use Rattle.wtf_model.proofs.SliceLaws.{yank-none}
use Rattle.wtf_machine.specs.Sessions.{session_in}
use Rattle.wtf_machine.proofs.SliceWays.{yank-made}
use Rattle.wtf_machine.proofs.workspace.Workspace.yank.Goals as goal

pub returns-in_default : goal.returns-in_default
returns-in_default c cap = yank-none cap (session_in c.args.self.now) c.args.f c.args.n c.args.label (sym c.in_default.ensures)

pub returns : goal.returns
returns c cap =
    yank-made cap (session_in c.args.self.now) c.args.f c.args.n c.args.label (sym c.in-Some.ensures) c.bytes_on.ensures c.part-bytes.ensures
    c.in_ok-slice.ensures.ok c.in_ok-copy.ensures c.in_ok-set.ensures.ok c.in_ok-set-2.ensures.ok
