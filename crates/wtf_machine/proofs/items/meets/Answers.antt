use Rattle.std.proofs.Common.{arith}
use Rattle.wtf_model.specs.Items.{is_among}
use Rattle.wtf_machine.proofs.RunWays.{one-passes, none-passes, all-fail}
use Rattle.wtf_machine.proofs.items.meets.Goals as goal

pub returns-then-is_among : goal.returns-then-is_among
returns-then-is_among c =
    one-passes (is_among c.args.items.now) c.args.others.now c.loop-other.other-index c.other-item.result c.loop-other-test.true c.other-item.is
    c.if-is_among.ensures

pub loop-other-preserved : goal.loop-other-preserved
loop-other-preserved c =
    none-passes (is_among c.args.items.now) c.args.others.now c.loop-other.other-index c.other-item.result c.loop-other-test.true c.other-item.is
    c.loop-other.invariant c.if-is_among.ensures

pub returns : goal.returns
returns c = all-fail (is_among c.args.items.now) c.args.others.now c.loop-other.other-index (omega arith) c.loop-other.invariant
