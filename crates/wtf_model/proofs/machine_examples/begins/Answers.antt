use Rattle.std.proofs.Common.{Some, None, refl, ap, ◌∙◌}
use Rattle.std.specs.FinMap.{get}
use Rattle.wtf_model.specs.declared.answer.Answer.TheVariants as answer
use Rattle.wtf_model.specs.declared.answer.Word.TheVariants as word
use Rattle.wtf_model.specs.declared.event.Verb.TheVariants as verb
use Rattle.wtf_model.specs.Steps.{Machine}
use Rattle.wtf_model.specs.Examples.{first_transaction}
use Rattle.wtf_model.proofs.Laws.{get-number_same, get-number_other}
use Rattle.wtf_model.proofs.StepLaws.{after-client}
use Rattle.wtf_model.proofs.MachineExamples.{to_may, from_may, only_refused}
use Rattle.wtf_model.proofs.machine_examples.begins.Goals as goal

pub returns : goal.returns
returns c = record {
  only = λ m c none b. (λ h. from_may m c None none verb.Begin b h, λ e. to_may m c None none verb.Begin b e);
  opened = λ m c none. ap (λ (x : Machine). get x.transactions c) (after-client m c verb.Begin (answer.Begun m.number) None none) ∙ get-number_same m.transactions c (first_transaction m);
  stamp = λ m c none. ap (λ (x : Machine). x.next_stamp) (after-client m c verb.Begin (answer.Begun m.number) None none);
  others = λ m c d none ne. ap (λ (x : Machine). get x.transactions d) (after-client m c verb.Begin (answer.Begun m.number) None none) ∙ get-number_other m.transactions c (first_transaction m) d ne;
  second = λ m x t there. only_refused m x (Some t) there verb.Begin word.InTx refl;
}
