use Rattle.std.proofs.Common.{refl}
use Rattle.std.proofs.Common.{arith}
use Rattle.std.proofs.lemmas.Bool.{le-leb}
use Rattle.wtf_model.specs.ByteCalls.{truncate}
use Rattle.wtf_model.proofs.byte_examples.truncations.Goals as goal

pub returns : goal.returns
unfolding truncate
returns c = record {
  cuts = λ cap f s h o fit. rw (o.here, o.file, le-leb 2 cap fit) refl;
  pads = λ cap f s h o fit. rw (o.here, o.file, le-leb 5 cap fit) refl;
  to_nothing = λ cap f s h o. rw (o.here, o.file, le-leb 0 cap (omega arith)) refl;
  too_big = λ f s h bytes o. rw o.here refl;
  closed = λ cap f n s none. rw none refl;
}
