use Rattle.std.proofs.Common.{sym, arith, ◌∙◌}
use Rattle.wtf_machine.specs.Sessions.{session_in}
use Rattle.wtf_machine.proofs.LogLaws.{session-left, session-end}
use Rattle.wtf_machine.proofs.log.rerun.Goals as goal

pub loop-logged-preserved : goal.loop-logged-preserved
loop-logged-preserved c =
    sym (session-left c.args.cap (session_in c.loop-logged.session)
    (session_in c.call.new.self) c.args.calls.now c.loop-logged.logged-index c.logged-item.result
    c.in_ok-call.field-0 c.loop-logged-test.true c.logged-item.is c.in_ok-call.ensures) ∙ c.loop-logged.invariant

pub returns : goal.returns
returns c = sym (session-end c.args.cap (session_in c.loop-logged.session) c.args.calls.now c.loop-logged.logged-index (omega arith)) ∙ c.loop-logged.invariant
