use Rattle.std.proofs.Common.{refl}
use Rattle.wtf_model.specs.SliceCalls.{peek}
use Rattle.wtf_model.proofs.slice_examples.peeks.Goals as goal

pub returns : goal.returns
unfolding peek
returns c = record {
  part = λ cap label s is. rw is refl;
  whole = λ cap label s is. rw is refl;
  past = λ cap label s is. rw is refl;
  nothing = λ cap label s is. rw is refl;
  unset = λ cap label off n s is. rw is refl;
}
