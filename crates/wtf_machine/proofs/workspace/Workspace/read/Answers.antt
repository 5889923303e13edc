use Rattle.std.proofs.Common.{sym, ◌∙◌}
use Rattle.wtf_model.proofs.ByteLaws.{read-none}
use Rattle.wtf_machine.specs.Sessions.{session_in}
use Rattle.wtf_machine.proofs.HandleWays.{read_in}
use Rattle.wtf_machine.proofs.workspace.Workspace.read.Goals as goal

pub returns-in_default : goal.returns-in_default
returns-in_default c k = read-none k (session_in c.args.self.now) c.args.f c.args.n (sym c.in_default.ensures)

pub returns : goal.returns
returns c k =
    read_in k (session_in c.args.self.now) c.args.f _ c.in-Some.ensures _ c.bytes_on-bytes.ensures
    c.args.n _ _ _ _ (c.of.ensures ∙ c.in_ok-shown.ensures.items ∙ c.part.ensures) c.part_end-off.ensures
    c.in_ok-path.ensures c.in_ok-set.ensures.ok
