use Rattle.std.proofs.Common.{Some, ap, ◌∙◌}
use Rattle.std.specs.FinMap.{get}
use Rattle.wtf_model.specs.declared.answer.Answer.TheVariants as answer
use Rattle.wtf_model.specs.declared.answer.Word.TheVariants as word
use Rattle.wtf_model.specs.declared.event.Verb.TheVariants as verb
use Rattle.wtf_model.specs.Steps.{Machine}
use Rattle.wtf_model.proofs.Laws.{get-number_same}
use Rattle.wtf_model.proofs.StepLaws.{after-client}
use Rattle.wtf_model.proofs.MachineExamples.{asked, asks, only_refused, live_step, replaying_step, may_abort_step}
use Rattle.wtf_model.proofs.machine_examples.replays.Goals as goal

pub returns : goal.returns
returns c = record {
  live = λ m x t there live. only_refused m x (Some t) there verb.Step word.Live (live_step t live);
  same = λ m x i t there live. (λ h. asks m x (Some t) there verb.Step (answer.Replayed i) (replaying_step t live) h, λ h. asked m x (Some t) there verb.Step (answer.Replayed i) (replaying_step t live) h);
  other = λ m x t a r there live is ne aborted. may_abort_step m x t a r there live is ne aborted;
  one_more = λ m x i t there. ap (λ (y : Machine). get y.transactions x) (after-client m x verb.Step (answer.Replayed i) (Some t) there) ∙ get-number_same m.transactions x (record t { replayed = i });
}
