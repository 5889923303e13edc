use Rattle.std.proofs.Common.{refl}
use Rattle.wtf_model.specs.Examples.{first_job}
use Rattle.wtf_model.proofs.Laws.{get-number_same, get-number_other}
use Rattle.wtf_model.proofs.MachineLaws.{with_job-rest}
use Rattle.wtf_model.proofs.job_examples.planned_jobs.Goals as goal

pub returns : goal.returns
returns c = record {
  job = λ m j r kind p. get-number_same m.jobs j (first_job m kind p r);
  others = λ m i j r kind p ne. get-number_other m.jobs j (first_job m kind p r) i ne;
  stamp = λ m j r kind p. refl;
  rest = λ m j r kind p a. with_job-rest m j kind p r a;
}
