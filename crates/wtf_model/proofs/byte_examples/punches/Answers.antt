use Rattle.std.proofs.Common.{refl}
use Rattle.wtf_model.specs.ByteCalls.{punch}
use Rattle.wtf_model.proofs.byte_examples.punches.Goals as goal

pub returns : goal.returns
unfolding punch
returns c = record {
  to_end = λ cap f s h o at. rw (o.here, o.file, at) refl;
  inside = λ cap f s h o at. rw (o.here, o.file, at) refl;
  past = λ cap f s h o at. rw (o.here, o.file, at) refl;
  closed = λ cap f n s none. rw none refl;
}
