use Rattle.std.proofs.Common.{refl}
use Rattle.wtf_model.specs.ByteCalls.{read}
use Rattle.wtf_model.proofs.byte_examples.reads.Goals as goal

pub returns : goal.returns
unfolding read
returns c = record {
  all = λ cap f s h o at. rw (o.here, o.file, at) refl;
  some = λ cap f s h o at. rw (o.here, o.file, at) refl;
  past = λ cap f s h o at. rw (o.here, o.file, at) refl;
}
