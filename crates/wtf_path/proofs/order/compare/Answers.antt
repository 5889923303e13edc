use Rattle.std.proofs.Common.{rules, ◌≡◌, ℕ, ◌-◌, ◌+◌, drop, sym, ◌∙◌, arith}
use Rattle.std.specs.Ordering.{nat_cmp}
use Rattle.std.specs.Cmp.Lexicographic.{slice_cmp}
use Rattle.wtf_path.proofs.Compared.{eight_decide, eight-apart, eight-alike, fewer, ends}
use Rattle.wtf_path.proofs.order.compare.Goals as goal

pub returns-then-is_ne : goal.returns-then-is_ne
returns-then-is_ne c =
    eight-apart c.loop-at.at c.args.first.now c.args.second.now c.compare_eight-order.result (omega arith) (omega arith) c.loop-at.invariant.alike
    c.compare_eight-order.ensures (search rules)

pub loop-at-preserved : goal.loop-at-preserved
loop-at-preserved c = record {
  within = omega arith;
  alike =
      eight-alike c.loop-at.at c.args.first.now c.args.second.now c.compare_eight-order.result c.loop-at.invariant.alike
      c.compare_eight-order.ensures (search rules);
}

pub returns : goal.returns
returns c =
    let first = c.args.first.now in
    let second = c.args.second.now in
    let last : ℕ = c.min-both.result - 8 in
    let alike = fewer last c.loop-at.at first second (omega arith) c.loop-at.invariant.alike in
    let behind : slice_cmp nat_cmp (drop (last + 8) first) (drop (last + 8) second) ≡ c.cmp.result =
    ends (last + 8) first second (omega arith) ∙ sym c.cmp.ensures in
    c.then.ensures ∙ rw (c.compare_eight.ensures, ← behind) (sym (eight_decide last first second (omega arith) (omega arith) alike))
