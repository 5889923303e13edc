use Rattle.std.proofs.Common.{Some, None}
use Rattle.wtf_model.proofs.MachineLaws.{dropped-rest}
use Rattle.wtf_model.proofs.MachineExamples.{gone}
use Rattle.wtf_model.proofs.JobLaws.{only_drop}
use Rattle.wtf_model.proofs.job_examples.drops.Goals as goal

pub returns : goal.returns
returns c = record {
  only = λ m j job there. only_drop m j (Some job) there;
  no_job = λ m j none. only_drop m j None none;
  gone = λ m j. gone m.jobs j;
  rest = dropped-rest;
}
