use Rattle.std.proofs.Common.{◌≡◌, ◌++◌, ◌-◌, ◌≤◌, ℕ, List, Some, take, length}
use Rattle.wtf_healer.proofs.lines.write_all.Given as goal

-- the bytes before `at` were taken
abbrev pub invariant-loop-at : goal.invariant-loop-at
invariant-loop-at g l = record {
  within : l.at ≤ length l.text;
  still : (g.O.Sink.view l.out).faults ≡ (g.O.Sink.view l.fn.out).faults;
  told : (old : List ℕ) → (g.O.Sink.view l.fn.out).taken ≡ Some old → (g.O.Sink.view l.out).taken ≡ Some (old ++ take l.at l.text);
}

abbrev pub decreases-loop-at : goal.decreases-loop-at
decreases-loop-at g l = length l.text - l.at
