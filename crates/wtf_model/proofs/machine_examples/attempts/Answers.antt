use Rattle.std.proofs.Common.{Some, ap, ◌∙◌}
use Rattle.std.specs.Option.{option_map}
use Rattle.std.specs.FinMap.{get, remove}
use Rattle.wtf_model.specs.declared.answer.Answer.TheVariants as answer
use Rattle.wtf_model.specs.declared.answer.Word.TheVariants as word
use Rattle.wtf_model.specs.declared.event.Verb.TheVariants as verb
use Rattle.wtf_model.specs.Items.{writes_of}
use Rattle.wtf_model.specs.Steps.{Machine, cap_of, touch, rebased}
use Rattle.wtf_model.proofs.Laws.{get-number_same}
use Rattle.wtf_model.proofs.StepLaws.{after-client}
use Rattle.wtf_model.proofs.ItemLaws.{get-each, get-each_none}
use Rattle.wtf_model.proofs.MachineExamples.{asked, asks, only_refused, live_try, replaying_try, gone, left}
use Rattle.wtf_model.proofs.machine_examples.attempts.Goals as goal

pub returns : goal.returns
returns c = record {
  committed = λ m x n t there live. (λ h. asks m x (Some t) there verb.Try (answer.Committed n) (live_try t live) h, λ h. asked m x (Some t) there verb.Try (answer.Committed n) (live_try t live) h);
  retry = λ m x base now t there live. (λ h. asks m x (Some t) there verb.Try (answer.Retry base now) (live_try t live) h, λ h. asked m x (Some t) there verb.Try (answer.Retry base now) (live_try t live) h);
  number = λ m x n t there. ap (λ (y : Machine). y.number) (after-client m x verb.Try (answer.Committed n) (Some t) there);
  tree = λ m x n t there. ap (λ (y : Machine). y.now) (after-client m x verb.Try (answer.Committed n) (Some t) there);
  gone = λ m x n t there. ap (λ (y : Machine). get y.transactions x) (after-client m x verb.Try (answer.Committed n) (Some t) there)
      ∙ get-each_none (touch (writes_of (cap_of m) m.now t.ops)) (remove m.transactions x) x (gone m.transactions x);
  others = λ m x d n t there ne. ap (λ (y : Machine). get y.transactions d) (after-client m x verb.Try (answer.Committed n) (Some t) there)
      ∙ get-each (touch (writes_of (cap_of m) m.now t.ops)) (remove m.transactions x) d
      ∙ ap (option_map (touch (writes_of (cap_of m) m.now t.ops))) (left m.transactions x d ne);
  rebased = λ m x base now t there. ap (λ (y : Machine). get y.transactions x) (after-client m x verb.Try (answer.Retry base now) (Some t) there) ∙ get-number_same m.transactions x (rebased m t);
  replaying = λ m x t there live. only_refused m x (Some t) there verb.Try word.Replaying (replaying_try t live);
}
