use Rattle.std.proofs.Common.{◌≡◌, ◌≤◌, ℕ, List, Some}
use Rattle.wtf_script.specs.Reading.{work}
use Rattle.wtf_carry.specs.Gets.{GetSofar}
use Rattle.wtf_carry.proofs.getting.get.Given as goal

-- the answers before were taken
abbrev pub invariant-loop-first : goal.invariant-loop-first
invariant-loop-first g l = record {
  within : l.left ≤ l.len;
  from_faults : (g.I.Source.view l.fn.from).faults ≤ (g.I.Source.view l.from).faults;
  out_faults : (g.O.Sink.view l.fn.out).faults ≤ (g.O.Sink.view l.out).faults;
  sofar : (script : List ℕ) → (g.I.Source.view l.fn.from).rest ≡ Some script
      → GetSofar l.len l.left script l.lines (g.I.Source.view l.from).rest (g.O.Sink.view l.fn.out).taken (g.O.Sink.view l.out).taken;
}

abbrev pub decreases-loop-first : goal.decreases-loop-first
decreases-loop-first g l = work l.lines
