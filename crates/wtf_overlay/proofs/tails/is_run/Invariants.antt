use Rattle.std.proofs.Common.{◌≤◌, ◌^◌, take}
use Rattle.wtf_overlay.specs.Runs.{IsRunIn}
use Rattle.wtf_overlay.proofs.tails.is_run.Given as goal

-- the entries so far are a run that lies below the end
abbrev pub invariant-loop-e : goal.invariant-loop-e
invariant-loop-e l = record {
  within : l.end ≤ 2 ^ 32;
  run : IsRunIn 0 l.end (take l.e-index l.entries);
}
