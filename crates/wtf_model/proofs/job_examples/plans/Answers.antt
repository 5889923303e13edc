use Rattle.std.proofs.Common.{[]}
use Rattle.wtf_model.specs.declared.answer.Answer.TheVariants as answer
use Rattle.wtf_model.specs.declared.answer.Word.TheVariants as word
use Rattle.wtf_model.proofs.JobLaws.{plan-due, plan-first, plan-taken, plan-missing, plan-directory, plan-no_region, may_plan, only_plan}
use Rattle.wtf_model.proofs.job_examples.plans.Goals as goal

pub returns : goal.returns
returns c = record {
  planned = λ m j r kind p bytes h fit. may_plan m j r kind p answer.Planned (plan-due m j r p bytes h fit);
  empty_file = λ m j kind p h. may_plan m j 0 kind p answer.Planned (plan-first m j p [] h);
  label_taken = λ m j r kind p job there. only_plan m j r kind p word.JobInUse (plan-taken m j r p job there);
  missing = λ m j r kind p idle none. only_plan m j r kind p word.NoEnt (plan-missing m j r p idle none);
  directory = λ m j r kind p idle dir. only_plan m j r kind p word.IsDir (plan-directory m j r p idle dir);
  no_region = λ m j r kind p bytes h past. only_plan m j r kind p word.NoRegion (plan-no_region m j r p bytes h past);
}
