use Rattle.std.proofs.Common.{refl}
use Rattle.wtf_model.specs.declared.answer.Word.TheVariants as word
use Rattle.wtf_model.proofs.MachineExamples.{dump_short, dump_refused, dump_long, dump_directory, dump_missing}
use Rattle.wtf_model.proofs.machine_examples.shows_the_tree.Goals as goal

pub returns : goal.returns
returns c = record {
  file = dump_short;
  long = λ m p paths bytes file past. dump_refused m p word.Long (dump_long m p paths bytes file past);
  directory = λ m p dir. dump_refused m p word.IsDir (dump_directory m p dir);
  missing = λ m p none. dump_refused m p word.NoEnt (dump_missing m p none);
  tree = λ m b. (λ e. e, λ e. e);
  leaves = λ m p a. refl;
}
