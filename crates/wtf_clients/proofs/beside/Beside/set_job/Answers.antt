use Rattle.wtf_clients.proofs.Common.{BesideView, SetsJob, Some, set, subst, arith}
use Rattle.wtf_clients.proofs.JobPins.{sets_job}
use Rattle.wtf_clients.proofs.beside.Beside.set_job.Goals as goal

pub returns-clause-sets : goal.returns-clause-sets
returns-clause-sets c =
    let labels = c.self.invariant.0 in
    let label = c.requires in
    subst (λ (b : BesideView). SetsJob c.args.j (Some c.args.job) b.jobs (set c.self.inside.jobs c.args.j (Some c.args.job))) c.self.view_is
    (sets_job c.self.inside.jobs c.args.j (Some c.args.job) (omega (arith, labels, label)))
