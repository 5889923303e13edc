use Rattle.std.proofs.Common.{None, refl}
use Rattle.wtf_model.specs.declared.answer.Word.TheVariants as word
use Rattle.wtf_model.specs.declared.event.Verb.TheVariants as verb
use Rattle.wtf_model.proofs.MachineExamples.{only_refused}
use Rattle.wtf_model.proofs.machine_examples.needs_a_transaction.Goals as goal

pub returns : goal.returns
returns c = record {
  a_try = λ m x none. only_refused m x None none verb.Try word.NoTx refl;
  a_step = λ m x none. only_refused m x None none verb.Step word.NoTx refl;
  a_commit = λ m x none. only_refused m x None none verb.Commit word.NoTx refl;
  an_abort = λ m x none. only_refused m x None none verb.Abort word.NoTx refl;
  a_call = λ m x o none. only_refused m x None none (verb.Call o) word.NoTx refl;
}
