use Rattle.std.proofs.Common.{◌≡◌, ◌+◌, ◌*◌, length}
use Rattle.wtf_gen.specs.Lines.{some_bytes}
use Rattle.wtf_gen.proofs.pen.Pen.some_bytes.Given as goal

abbrev pub invariant-loop : goal.invariant-loop
invariant-loop l = (l.self ≡ some_bytes l.counter l.initial.self) × (length l.self.text ≡ length l.initial.self.text + 2 * l.counter)
