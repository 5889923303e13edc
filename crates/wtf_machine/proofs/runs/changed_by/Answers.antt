use Rattle.std.proofs.Common.{◌+◌, ◌++◌, drop, arith, ap, ◌∙◌}
use Rattle.wtf_model.specs.Items.{writes_from}
use Rattle.wtf_machine.specs.Sessions.{session_in}
use Rattle.wtf_machine.specs.Logs.{ops_of}
use Rattle.wtf_machine.proofs.RunWays.{writes-left, writes-end}
use Rattle.wtf_machine.proofs.runs.changed_by.Goals as goal

pub loop-logged-preserved : goal.loop-logged-preserved
loop-logged-preserved c =
    ap (λ l. l ++ writes_from c.args.cap (session_in c.change.new.self) (ops_of (drop (c.loop-logged.logged-index + 1) c.args.calls.now)))
    c.in_ok-append.ensures.items
    ∙ writes-left c.args.cap (session_in c.loop-logged.session) (session_in c.change.new.self) c.args.calls.now c.loop-logged.logged-index c.logged-item.result
    c.loop-logged.changed.items c.in_ok-more.more.items c.loop-logged-test.true c.logged-item.is c.in_ok-more.ensures.left c.in_ok-more.ensures.changed
    ∙ c.loop-logged.invariant

pub returns : goal.returns
returns c =
    writes-end c.args.cap (session_in c.loop-logged.session) c.args.calls.now c.loop-logged.logged-index c.loop-logged.changed.items (omega arith)
    ∙ c.loop-logged.invariant
