use Rattle.std.proofs.Common.{◌+◌, Some, refl, ap, ◌∙◌}
use Rattle.std.specs.FinMap.{get}
use Rattle.wtf_model.specs.declared.answer.Answer.TheVariants as answer
use Rattle.wtf_model.specs.declared.event.Verb.TheVariants as verb
use Rattle.wtf_model.specs.Steps.{Machine}
use Rattle.wtf_model.proofs.MachineExamples.{asked, asks, may_abort_commit, grew, never, first_only, commit_ended, gone}
use Rattle.wtf_model.proofs.machine_examples.commits.Goals as goal

pub returns : goal.returns
returns c = record {
  same = λ m x t there same. asked m x (Some t) there verb.Commit (answer.Committed (m.number + 1)) refl (refl, same);
  only_same = λ m x n t there h. asks m x (Some t) there verb.Commit (answer.Committed n) refl h;
  a_file_grew = λ m x t r there is was aborted. may_abort_commit m x t 1 (answer.File 3 1) r there (grew _ t.shown is was) aborted;
  never_without_cause = never;
  at_the_first = λ i a d. first_only i a d;
  ended = λ m x i t a r there aborted. ap (λ (y : Machine). get y.transactions x) (commit_ended m x i t a r there aborted) ∙ gone m.transactions x;
  keeps_the_tree = λ m x i t a r there aborted. ap (λ (y : Machine). y.now) (commit_ended m x i t a r there aborted);
}
