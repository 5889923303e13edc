use Rattle.std.proofs.Common.{refl}
use Rattle.wtf_model.specs.HandleCalls.{seek}
use Rattle.wtf_model.proofs.byte_examples.seeks.Goals as goal

pub returns : goal.returns
unfolding seek
returns c = record {
  set = λ f s h bytes o. rw o.here refl;
  set_past = λ f s h bytes o. rw o.here refl;
  fwd = λ f s h bytes o at. rw (o.here, at) refl;
  fwd_past = λ f s h bytes o at. rw (o.here, at) refl;
  back = λ f s h bytes o at. rw (o.here, at) refl;
  back_to_start = λ cap f s h bytes o at. rw (o.here, at) refl;
  back_past = λ cap f s h bytes o at. rw (o.here, at) refl;
  end = λ cap f s h o. rw (o.here, o.file) refl;
  closed = λ cap f n s none. rw none refl;
}
