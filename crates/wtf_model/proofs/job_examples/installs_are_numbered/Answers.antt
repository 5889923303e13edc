use Rattle.wtf_model.proofs.JobLaws.{two_jobs, moved}
use Rattle.wtf_model.proofs.job_examples.installs_are_numbered.Goals as goal

pub returns : goal.returns
returns c = record {
  two_jobs = λ m p bytes h idle. two_jobs m p bytes h idle;
  replayed = λ m t p bytes h ready reading. moved m t p bytes h ready reading;
}
