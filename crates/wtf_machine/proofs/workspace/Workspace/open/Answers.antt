use Rattle.wtf_model.proofs.CallLaws.{call-open_refused, call-open_taken}
use Rattle.wtf_machine.specs.Sessions.{session_in}
use Rattle.wtf_machine.proofs.HandleWays.{taken, free, open_in}
use Rattle.wtf_machine.proofs.workspace.Workspace.open.Goals as goal

pub returns-then-is_some : goal.returns-then-is_some
returns-then-is_some c k =
    let (h, there) = taken c.at.result _ c.at.ensures c.if-is_some.ensures in
    call-open_taken k (session_in c.args.self.now) c.args.f c.args.p.now h there

pub returns-in-Some : goal.returns-in-Some
returns-in-Some c k =
    call-open_refused k (session_in c.args.self.now) c.args.f c.args.p.now _ (free c.at.result _ c.at.ensures c.if-is_some.ensures) c.in-Some.ensures.some

pub returns : goal.returns
returns c k =
    open_in k (session_in c.args.self.now) c.args.f c.args.p.now _ _ (free c.at.result _ c.at.ensures c.if-is_some.ensures)
    c.in_default.ensures.none c.in_ok-path.ensures c.in_ok-set.ensures.ok
