use Rattle.wtf_clients.proofs.Common.{JobView, BesideView, SetsJob, Option, None, set, sym, subst, arith}
use Rattle.wtf_clients.proofs.JobPins.{sets_job}
use Rattle.wtf_clients.proofs.beside.Beside.take_job.Goals as goal

pub returns-clause-sets : goal.returns-clause-sets
returns-clause-sets c =
    let labels = c.self.invariant.0 in
    let label = c.requires in
    subst (λ (o : Option JobView). SetsJob c.args.j None c.args.self.now.jobs (set c.self.inside.jobs c.args.j o)) (sym c.take.ensures.after)
    (subst (λ (b : BesideView). SetsJob c.args.j None b.jobs (set c.self.inside.jobs c.args.j None)) c.self.view_is
    (sets_job c.self.inside.jobs c.args.j None (omega (arith, labels, label))))
