use Rattle.std.proofs.Common.{◌+◌, ◌*◌, ◌-◌, get_or, drop, sym, arith}
use Rattle.wtf_lex.proofs.NumberLaws.{value_from-grows, value_from-at, number_within-past}
use Rattle.wtf_lex.proofs.numbers.number_within.Goals as goal

-- the digits that are left only make it greater
pub returns-in_err-value-clause-value : goal.returns-in_err-value-clause-value
returns-in_err-value-clause-value c =
    let word = c.args.word.now in
    let i = c.loop-d.d-index in
    let v = c.loop-d.value in
    let w = v * 10 + (get_or word i 0 - 48) in
    let on = value_from-at v word i (omega arith) in
    let grows = value_from-grows w (drop (i + 1) word) in
    rw c.from_residual.ensures (sym (number_within-past c.args.most word (omega (arith, on, grows, c.loop-d.invariant.1, c.in_err-value.ensures, c.from.ensures))))
