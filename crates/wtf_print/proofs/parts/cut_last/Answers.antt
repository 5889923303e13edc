use Rattle.std.proofs.Common.{◌-◌, arith}
use Rattle.wtf_print.proofs.Cuts.{cut-from_last, uncut-from_all}
use Rattle.wtf_print.proofs.parts.cut_last.Goals as goal

pub returns-then-text-at-eq58 : goal.returns-then-text-at-eq58
returns-then-text-at-eq58 c =
    let so_far = c.loop-at.invariant in
    cut-from_last c.args.text.now (c.loop-at.at - 1) (omega (arith, so_far.within, c.loop-at-test.true)) c.if-text-at-eq58.true
    (λ k h. so_far.last k (omega (arith, h, c.loop-at-test.true)))

pub returns : goal.returns
returns c = uncut-from_all c.args.text.now (λ k. c.loop-at.invariant.last k (omega (arith, c.loop-at-test.false)))
