use Rattle.std.proofs.Common.{◌≡◌, ◌≤◌, ◌-◌, ℕ, List, Some}
use Rattle.wtf_path.specs.Grammar.{IsPath}
use Rattle.wtf_carry.specs.Reads.{ReadSofar}
use Rattle.wtf_carry.proofs.reading.reads.Given as goal

-- the lines of the reads before were written
abbrev pub invariant-loop-at : goal.invariant-loop-at
invariant-loop-at g l = record {
  within : l.at ≤ l.len;
  few : l.i ≤ l.at;
  is_path : IsPath l.path;
  faults : (g.O.Sink.view l.fn.out).faults ≤ (g.O.Sink.view l.out).faults;
  sofar : (old : List ℕ) → (g.O.Sink.view l.fn.out).taken ≡ Some old → ReadSofar l.path old l.i l.at (g.O.Sink.view l.out).taken;
}

abbrev pub decreases-loop-at : goal.decreases-loop-at
decreases-loop-at g l = l.len - l.at
