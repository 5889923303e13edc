use Rattle.std.proofs.Common.{arith, ap, ◌∙◌}
use Rattle.wtf_model.specs.Items.{meets}
use Rattle.wtf_machine.specs.Sessions.{session_in}
use Rattle.wtf_machine.proofs.RunWays.{reads-one, reads-none, reads-end}
use Rattle.wtf_machine.proofs.runs.reads_one.Goals as goal

pub returns-then-meets : goal.returns-then-meets
returns-then-meets c =
    reads-one c.args.cap (session_in c.loop-logged.session) c.args.calls.now c.loop-logged.logged-index c.logged-item.result c.args.touched.now
    c.loop-logged-test.true c.logged-item.is (c.if-meets.ensures ∙ ap (meets c.args.touched.now) (c.as_slice.ensures.value ∙ c.in_ok-read.ensures))
    ∙ c.loop-logged.invariant

pub loop-logged-preserved : goal.loop-logged-preserved
loop-logged-preserved c =
    reads-none c.args.cap (session_in c.loop-logged.session) (session_in c.call.new.self) c.args.calls.now c.loop-logged.logged-index c.logged-item.result
    c.in_ok-call.field-0 c.args.touched.now c.loop-logged-test.true c.logged-item.is c.in_ok-call.ensures
    (c.if-meets.ensures ∙ ap (meets c.args.touched.now) (c.as_slice.ensures.value ∙ c.in_ok-read.ensures))
    ∙ c.loop-logged.invariant

pub returns : goal.returns
returns c =
    reads-end c.args.cap (session_in c.loop-logged.session) c.args.calls.now c.loop-logged.logged-index c.args.touched.now (omega arith)
    ∙ c.loop-logged.invariant
