use Rattle.std.proofs.Common.{refl, inl, inr}
use Rattle.wtf_model.specs.declared.op.JobKind.TheVariants.{Spill}
use Rattle.wtf_model.specs.declared.answer.Answer.TheVariants as answer
use Rattle.wtf_model.proofs.JobLaws.{plan_fails, compact_writes_nothing, unknown_server}
use Rattle.wtf_model.proofs.job_examples.plans_that_fail.Goals as goal

pub returns : goal.returns
returns c = record {
  read = λ m j k kind p bytes h below. plan_fails m j kind p bytes (answer.FaultRead k) h (inl below);
  damaged = λ m j k kind p bytes h below. plan_fails m j kind p bytes (answer.Damaged k) h (inl below);
  spill = λ m j p bytes h. plan_fails m j Spill p bytes answer.FaultWrite h (inr tt);
  compact = compact_writes_nothing;
  no_server = λ m j r k kind p past h. unknown_server m j r k kind p past h;
  leaves = λ m j r k kind p. refl;
}
