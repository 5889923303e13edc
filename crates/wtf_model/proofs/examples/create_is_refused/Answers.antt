use Rattle.wtf_model.specs.declared.answer.Word.TheVariants.{Exists, NoParent}
use Rattle.wtf_model.specs.Tree.{root}
use Rattle.wtf_model.proofs.CallLaws.{call-create_refused, target-root, target-exists, target-no_parent, target-file_parent}
use Rattle.wtf_model.proofs.examples.create_is_refused.Goals as goal

pub returns : goal.returns
returns c = record {
  root = λ cap s. call-create_refused cap s root Exists (target-root s.tree);
  exists = λ cap s p dir n up is there. call-create_refused cap s p Exists (target-exists s.tree p dir n up is there);
  no_parent = λ cap s p dir up gone. call-create_refused cap s p NoParent (target-no_parent s.tree p dir up gone);
  file_parent = λ cap s p dir paths bytes up file. call-create_refused cap s p NoParent (target-file_parent s.tree p dir paths bytes up file);
}
