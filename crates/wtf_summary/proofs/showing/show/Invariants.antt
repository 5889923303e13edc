use Rattle.std.proofs.Common.{◌≡◌, ◌-◌, ◌≤◌, take, length}
use Rattle.wtf_summary.specs.Traces.{numbers_of}
use Rattle.wtf_summary.specs.States.{SinkStands}
use Rattle.wtf_summary.proofs.showing.show.Given as goal

-- the bytes before `at` were taken
abbrev pub invariant-loop-at : goal.invariant-loop-at
invariant-loop-at g l = record {
  within : l.at ≤ length l.text;
  sound : SinkStands (g.O.Sink.view l.out) l.state;
  lines : l.state.lines ≡ l.lines;
  first : l.state.trace.first.numbers ≡ numbers_of (g.O.Sink.view l.fn.out);
  text : l.state.trace.text.numbers ≡ take l.at l.text;
  whole : l.state.faults ≡ 0;
}

abbrev pub decreases-loop-at : goal.decreases-loop-at
decreases-loop-at g l = length l.text - l.at
