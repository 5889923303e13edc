use Rattle.std.proofs.Common.{refl, arith, ap, ◌∙◌, ◌≡◌, ◌+◌, ℕ, add-one}
use Rattle.wtf_gen.specs.Lines.{Draft, some_bytes, byte}
use Rattle.wtf_gen.proofs.pen.Pen.some_bytes.Goals as goal

some_bytes-zero : (p : Draft) → p ≡ some_bytes 0 p
unfolding some_bytes
some_bytes-zero p = refl

some_bytes-next : (n : ℕ) (p : Draft) → byte (some_bytes n p) ≡ some_bytes (n + 1) p
unfolding some_bytes
some_bytes-next n p = rw (add-one n) refl

pub loop-init : goal.loop-init
loop-init c = (some_bytes-zero c.args.self.now, omega arith)

pub loop-preserved : goal.loop-preserved
loop-preserved c = (
  c.byte.ensures.value ∙ ap byte c.loop.invariant.0 ∙ some_bytes-next c.loop.counter c.args.self.now,
  omega (arith, c.byte.ensures.len, c.loop.invariant.1),
)
