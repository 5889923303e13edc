use Rattle.std.proofs.Common.{arith}
use Rattle.wtf_model.specs.Items.{same_item}
use Rattle.wtf_machine.proofs.RunWays.{one-passes, none-passes, all-fail}
use Rattle.wtf_machine.proofs.items.is_among.Goals as goal

pub returns-then-is_same : goal.returns-then-is_same
returns-then-is_same c =
    one-passes (same_item c.args.it.now) c.args.items.now c.loop-item.item-index c.item-item.result c.loop-item-test.true c.item-item.is c.if-is_same.ensures

pub loop-item-preserved : goal.loop-item-preserved
loop-item-preserved c =
    none-passes (same_item c.args.it.now) c.args.items.now c.loop-item.item-index c.item-item.result c.loop-item-test.true c.item-item.is c.loop-item.invariant
    c.if-is_same.ensures

pub returns : goal.returns
returns c = all-fail (same_item c.args.it.now) c.args.items.now c.loop-item.item-index (omega arith) c.loop-item.invariant
