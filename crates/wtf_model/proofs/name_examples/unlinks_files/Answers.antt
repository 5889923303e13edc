use Rattle.std.proofs.Common.{refl, ap}
use Rattle.wtf_model.specs.declared.answer.Answer.TheVariants as answer
use Rattle.wtf_model.specs.Tree.{Tree}
use Rattle.wtf_model.specs.NameCalls.{unlink}
use Rattle.wtf_model.specs.Examples.{answering}
use Rattle.wtf_model.proofs.PathLaws.{refiled-taken}
use Rattle.wtf_model.proofs.name_examples.unlinks_files.Goals as goal

pub returns : goal.returns
unfolding unlink
returns c = record {
  dropped = λ cap s p paths bytes there closed. rw (there, closed) refl;
  taken = λ cap s p bytes there closed. rw (there, closed) (ap (λ (t : Tree). answering (record s { tree = t }) answer.Okay) (refiled-taken s.tree p bytes));
  busy = λ cap s p paths bytes there busy. rw (there, busy) refl;
  directory = λ cap s p there. rw there refl;
  missing = λ cap s p none. rw none refl;
}
