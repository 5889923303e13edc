use Rattle.std.proofs.Common.{◌≡◌, ◌++◌, drop}
use Rattle.wtf_values.specs.Pushes.{are_pushes, entries_of}
use Rattle.wtf_values.proofs.cell.entries_of.Given as goal

abbrev pub invariant-loop-change : goal.invariant-loop-change
invariant-loop-change g l = record {
  pushes : are_pushes (drop l.change-index l.run) ≡ are_pushes l.run;
  entries : l.entries.items ++ entries_of (drop l.change-index l.run) ≡ entries_of l.run;
}
