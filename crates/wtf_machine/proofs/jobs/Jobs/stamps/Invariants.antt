use Rattle.std.proofs.Common.{◌≡◌, ◌++◌, map}
use Rattle.std.specs.FinMap.{values}
use Rattle.wtf_machine.specs.Kept.{planned_in, jobs_in}
use Rattle.wtf_machine.proofs.jobs.Jobs.stamps.Given as goal

-- the stamps so far and those of the jobs that are left are those of all
abbrev pub invariant-loop-job : goal.invariant-loop-job
invariant-loop-job l =
    l.into.items ++ map (λ j. j.stamp) (map (λ e. planned_in l.self.changed.items e.1) l.rest)
    ≡ l.initial.into.items ++ map (λ j. j.stamp) (values (jobs_in l.self))
