use Rattle.std.proofs.Common.{refl}
use Rattle.wtf_model.specs.SliceCalls.{yank}
use Rattle.wtf_model.proofs.slice_examples.yanks.Goals as goal

pub returns : goal.returns
unfolding yank
returns c = record {
  all = λ cap f label s h o at. rw (o.here, o.file, at) refl;
  left = λ cap f label s h o at. rw (o.here, o.file, at) refl;
  none = λ cap f label s h o at. rw (o.here, o.file, at) refl;
  closed = λ cap f n label s none. rw none refl;
}
