use Rattle.std.proofs.Common.{◌≡◌, ◌≤◌, ◌-◌, replicate, ℕ, List, arith, ap, subst}
use Rattle.std.specs.Io.KnownBytes.{Appends}
use Rattle.wtf_real.proofs.Zeros.{appends_none, zeros_on}
use Rattle.wtf_real.proofs.parts.write_zeros.Goals as goal

pub loop-left-init : goal.loop-left-init
loop-left-init g c =
    let zero : 0 ≡ c.args.len - c.args.len = omega arith in
    let within : c.args.len ≤ c.args.len = omega arith in
    let none : replicate 0 0 ≡ replicate (c.args.len - c.args.len) 0 = ap (λ (n : ℕ). replicate n 0) zero in
    (within, subst (λ (bytes : List ℕ). Appends (g.W.Write.contents c.args.to.now) (g.W.Write.contents c.args.to.now) bytes) none (appends_none _))

pub loop-left-preserved : goal.loop-left-preserved
loop-left-preserved g c =
    let all = c.loop-left.invariant in (
      omega (arith, all.0),
      zeros_on _ _ _ c.args.len c.loop-left.left c.in_ok-left.field-0 all.0 c.in_ok-left.ensures.few all.1 c.in_ok-left.ensures.written,
    )

pub returns : goal.returns
returns g c =
    let none_left : c.args.len - c.loop-left.left ≡ c.args.len = omega (arith, c.loop-left-test.false) in
    let all : replicate (c.args.len - c.loop-left.left) 0 ≡ replicate c.args.len 0 = ap (λ (n : ℕ). replicate n 0) none_left in
    subst (λ (bytes : List ℕ). Appends (g.W.Write.contents c.args.to.now) (g.W.Write.contents c.loop-left.to) bytes) all c.loop-left.invariant.1
