use Rattle.std.proofs.Common.{Some, None, refl, ap, ◌∙◌}
use Rattle.std.specs.Option.{option_map}
use Rattle.std.specs.FinMap.{get, remove}
use Rattle.wtf_model.specs.declared.answer.Answer.TheVariants as answer
use Rattle.wtf_model.specs.Jobs.{job_changes}
use Rattle.wtf_model.specs.Steps.{touch, touch_job}
use Rattle.wtf_model.proofs.MachineLaws.{put_in_place-rest}
use Rattle.wtf_model.proofs.ItemLaws.{get-each, get-each_none}
use Rattle.wtf_model.proofs.MachineExamples.{gone, left}
use Rattle.wtf_model.proofs.JobLaws.{may_put, put_may, not_stale}
use Rattle.wtf_model.proofs.job_examples.puts.Goals as goal

pub returns : goal.returns
returns c = record {
  installed = λ m j n job there. (λ h. put_may m j (Some job) (answer.Installed n) there h, λ h. may_put m j (Some job) (answer.Installed n) there h);
  stale = λ m j base now job there. (λ h. put_may m j (Some job) (answer.Stale base now) there h, λ h. may_put m j (Some job) (answer.Stale base now) there h);
  no_stale_at_its_base = not_stale;
  no_job = λ m j none b. (λ h. put_may m j None b none h, λ e. may_put m j None b none e);
  number = λ m j n. refl;
  gone = λ m j n. get-each_none (touch_job (job_changes m.now (get m.jobs j))) (remove m.jobs j) j (gone m.jobs j);
  stale_gone = λ m j base now. gone m.jobs j;
  others = λ m i j n ne. get-each (touch_job (job_changes m.now (get m.jobs j))) (remove m.jobs j) i
      ∙ ap (option_map (touch_job (job_changes m.now (get m.jobs j)))) (left m.jobs j i ne);
  clients = λ m c j n. get-each (touch (job_changes m.now (get m.jobs j))) m.transactions c;
  body = λ m job. refl;
  rest = put_in_place-rest;
}
