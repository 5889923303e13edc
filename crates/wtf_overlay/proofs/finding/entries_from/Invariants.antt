use Rattle.std.proofs.Common.{◌-◌, ◌≤◌, length, drop}
use Rattle.wtf_overlay.specs.Runs.{SameFrom}
use Rattle.wtf_overlay.proofs.finding.entries_from.Given as goal

abbrev pub invariant-loop-low : goal.invariant-loop-low
invariant-loop-low l = record {
  order : l.low ≤ l.high;
  within : l.high ≤ length l.run;
  same : SameFrom l.x l.run (drop l.low l.run);
}

abbrev pub decreases-loop-low : goal.decreases-loop-low
decreases-loop-low l = l.high - l.low
