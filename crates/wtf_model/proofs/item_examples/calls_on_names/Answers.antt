use Rattle.std.proofs.Common.{refl, codes}
use Rattle.wtf_model.specs.declared.op.Op.TheVariants as op
use Rattle.wtf_model.proofs.ItemLaws.{writes-okay}
use Rattle.wtf_model.proofs.item_examples.calls_on_names.Goals as goal

pub returns : goal.returns
returns c = record {
  made = λ s. refl;
  root_made = λ s. refl;
  moved = λ s. refl;
  moves = λ cap s fine. writes-okay cap s (op.Rename (codes "/a") (codes "/d/b")) fine;
  linked = λ s. refl;
  links = λ cap s fine. writes-okay cap s (op.Link (codes "/a") (codes "/d/b")) fine;
  told = λ s. refl;
  dropped = λ cap s fine. writes-okay cap s (op.Unlink (codes "/a")) fine;
  joined = λ s. refl;
}
