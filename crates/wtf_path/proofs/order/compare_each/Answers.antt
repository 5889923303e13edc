use Rattle.std.proofs.Common.{rules, sym, ◌∙◌, arith}
use Rattle.wtf_path.proofs.Compared.{byte-apart, past, ends}
use Rattle.wtf_path.proofs.order.compare_each.Goals as goal

pub returns-then-first-at : goal.returns-then-first-at
returns-then-first-at c =
    byte-apart c.loop-at.at c.args.first.now c.args.second.now c.cmp.result (omega arith) (omega arith) c.loop-at.invariant.alike
    (search rules) (search rules)

pub returns : goal.returns
returns c =
    let first = c.args.first.now in
    let second = c.args.second.now in
    c.cmp-2.ensures ∙ sym (past c.loop-at.at first second (omega arith) (omega arith) c.loop-at.invariant.alike ∙ ends c.loop-at.at first second (omega arith))
