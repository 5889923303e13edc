use Rattle.std.proofs.Common.{refl}
use Rattle.std.proofs.lemmas.Bool.{le-leb}
use Rattle.wtf_model.specs.ByteCalls.{append}
use Rattle.wtf_model.proofs.byte_examples.appends.Goals as goal

pub returns : goal.returns
unfolding append
returns c = record {
  at_end = λ cap f s h o fit. rw (o.here, o.file, le-leb 4 cap fit) refl;
  to_the_end = λ f s h o. rw (o.here, o.file) refl;
  too_big = λ f s h o. rw (o.here, o.file) refl;
  closed = λ cap f s bytes none. rw none refl;
}
