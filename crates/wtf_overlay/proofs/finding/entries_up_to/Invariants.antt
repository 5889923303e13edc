use Rattle.std.proofs.Common.{◌-◌, ◌≤◌, length, take}
use Rattle.wtf_overlay.specs.Runs.{SameUpTo}
use Rattle.wtf_overlay.proofs.finding.entries_up_to.Given as goal

-- the entries from `high` on begin at x or later
abbrev pub invariant-loop-low : goal.invariant-loop-low
invariant-loop-low l = record {
  order : l.low ≤ l.high;
  within : l.high ≤ length l.run;
  same : SameUpTo l.x l.run (take l.high l.run);
}

abbrev pub decreases-loop-low : goal.decreases-loop-low
decreases-loop-low l = l.high - l.low
