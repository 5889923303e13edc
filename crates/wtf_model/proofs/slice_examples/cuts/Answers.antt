use Rattle.std.proofs.Common.{refl}
use Rattle.wtf_model.specs.SliceCalls.{cut}
use Rattle.wtf_model.proofs.slice_examples.cuts.Goals as goal

pub returns : goal.returns
unfolding cut
returns c = record {
  part = λ cap label made s is. rw is refl;
  itself = λ cap label s is. rw is refl;
  past = λ cap label made s is. rw is refl;
  unset = λ cap label off n made s is. rw is refl;
}
