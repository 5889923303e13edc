use Rattle.std.proofs.Common.{◌≡◌}
use Rattle.std.specs.FinMap.{entries}
use Rattle.wtf_model.specs.Scans.{lowest}
use Rattle.wtf_machine.specs.Kept.{planned_in, jobs_in}
use Rattle.wtf_machine.proofs.JobWays.{noted_of}
use Rattle.wtf_machine.proofs.OrderedLaws.{seen}
use Rattle.wtf_machine.proofs.jobs.Jobs.lowest.Given as goal

-- the stamps of the jobs so far were not noted, so the lowest label of one that was is among the others
abbrev pub invariant-loop-j : goal.invariant-loop-j
invariant-loop-j l = lowest (noted_of l.noted (seen (planned_in l.self.changed.items) l.rest)) ≡ lowest (noted_of l.noted (entries (jobs_in l.self)))
