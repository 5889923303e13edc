use Rattle.std.proofs.Common.{◌≡◌, ◌-◌, ◌≤◌, ℕ, List, Some, length}
use Rattle.wtf_carry.proofs.FillLaws.{Filling}
use Rattle.wtf_carry.proofs.stream.fill.Given as goal

-- so far n bytes came
abbrev pub invariant-loop-n : goal.invariant-loop-n
invariant-loop-n g l = record {
  within : l.n ≤ length l.piece;
  counted : (g.I.Source.view l.fn.from).faults ≤ (g.I.Source.view l.from).faults;
  told : (rest : List ℕ) → (g.I.Source.view l.fn.from).rest ≡ Some rest → Filling l.n l.piece rest (g.I.Source.view l.from).rest;
}

abbrev pub decreases-loop-n : goal.decreases-loop-n
decreases-loop-n g l = length l.piece - l.n
