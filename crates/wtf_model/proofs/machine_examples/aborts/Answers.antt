use Rattle.std.proofs.Common.{Some, refl, ap, ◌∙◌}
use Rattle.std.specs.FinMap.{get}
use Rattle.wtf_model.specs.declared.answer.Answer.TheVariants as answer
use Rattle.wtf_model.specs.declared.event.Verb.TheVariants as verb
use Rattle.wtf_model.specs.Steps.{Machine}
use Rattle.wtf_model.proofs.StepLaws.{after-client}
use Rattle.wtf_model.proofs.MachineExamples.{asked, asks, gone}
use Rattle.wtf_model.proofs.machine_examples.aborts.Goals as goal

pub returns : goal.returns
returns c = record {
  only = λ m x t there b. (λ h. asks m x (Some t) there verb.Abort b refl h, λ e. asked m x (Some t) there verb.Abort b refl e);
  ended = λ m x t there. ap (λ (y : Machine). get y.transactions x) (after-client m x verb.Abort answer.Okay (Some t) there) ∙ gone m.transactions x;
  keeps_the_tree = λ m x t there. ap (λ (y : Machine). y.now) (after-client m x verb.Abort answer.Okay (Some t) there);
}
