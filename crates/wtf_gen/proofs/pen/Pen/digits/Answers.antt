use Rattle.std.proofs.Common.{rules, ◌<◌, ◌≤◌, length, decimal, ℕ, arith, lit<}
use Rattle.std.proofs.lemmas.Fmt.{length-decimal-le}
use Rattle.wtf_gen.proofs.pen.Pen.digits.Goals as goal

short : (n : ℕ) → n < 10000 → length (decimal n) ≤ 4
short n h = length-decimal-le 4 n (lit< tt) h (omega (arith, h))

pub put-requires : goal.put-requires
put-requires c =
    let s = short c.args.n c.requires.below in
    search (rules, s, length-decimal-le)

pub returns-clause-len : goal.returns-clause-len
returns-clause-len c =
    let s = short c.args.n c.requires.below in
    search (rules, s)
