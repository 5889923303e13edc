use Rattle.std.proofs.Common.{◌≡◌, rules, ap, arith, drop}
use Rattle.std.proofs.lemmas.List.{drop_all}
use Rattle.wtf_gc.specs.Spans.{spans_cover, sum_of, size_of}
use Rattle.wtf_gc.proofs.Between.{sums_size}
use Rattle.wtf_gc.proofs.spans.total.Goals as goal

-- src/spans.rt:56:1
pub returns : goal.returns
returns c =
    let (lo, small, below, apart, e) = c.loop-s.invariant in
    let end : sum_of (drop c.loop-s.s-index c.args.spans.now) ≡ 0 = ap sum_of (drop_all c.loop-s.s-index c.args.spans.now (search rules)) in
    let is : sum_of c.args.spans.now ≡ size_of c.args.mark (spans_cover c.args.spans.now) = sums_size c.args.mark c.args.spans.now c.requires in
    omega (arith, e, end, is)
