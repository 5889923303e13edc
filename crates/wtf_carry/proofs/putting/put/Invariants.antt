use Rattle.std.proofs.Common.{◌≡◌, ◌≤◌, ◌-◌, ℕ, List, Some}
use Rattle.wtf_carry.specs.declared.TheConstants.{MOST_BYTES}
use Rattle.wtf_carry.specs.Puts.{Sofar}
use Rattle.wtf_carry.proofs.putting.put.Given as goal

-- the pieces before were carried
abbrev pub invariant-loop-text : goal.invariant-loop-text
invariant-loop-text g l = record {
  within : l.at ≤ MOST_BYTES;
  few : l.i ≤ l.at;
  from_faults : (g.I.Source.view l.fn.from).faults ≤ (g.I.Source.view l.from).faults;
  out_faults : (g.O.Sink.view l.fn.out).faults ≤ (g.O.Sink.view l.out).faults;
  sofar : (all old : List ℕ) → (g.I.Source.view l.fn.from).rest ≡ Some all → (g.O.Sink.view l.fn.out).taken ≡ Some old
      → Sofar l.path all old l.i l.at (g.I.Source.view l.from).rest (g.O.Sink.view l.out).taken;
}

abbrev pub decreases-loop-text : goal.decreases-loop-text
decreases-loop-text g l = MOST_BYTES - l.at
