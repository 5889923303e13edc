use Rattle.wtf_machine.proofs.JobWays.{stamps-jobs}
use Rattle.wtf_machine.proofs.jobs.Jobs.stamps.Goals as goal

pub loop-job-init : goal.loop-job-init
loop-job-init c = stamps-jobs c.args.self.now.changed.items _ _ c.iter-rest.ensures.rest c.iter-rest.ensures.ordered c.args.into.now.items
