use Rattle.wtf_machine.proofs.JobWays.{lowest-jobs}
use Rattle.wtf_machine.proofs.jobs.Jobs.lowest.Goals as goal

pub loop-j-init : goal.loop-j-init
loop-j-init c = lowest-jobs c.args.self.now.changed.items _ _ c.iter-rest.ensures.rest c.iter-rest.ensures.ordered c.args.noted.now
