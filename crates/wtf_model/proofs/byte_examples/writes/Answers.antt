use Rattle.std.proofs.Common.{refl}
use Rattle.std.proofs.lemmas.Bool.{le-leb}
use Rattle.wtf_model.proofs.CallLaws.{call-write_no_handle}
use Rattle.wtf_model.specs.ByteCalls.{write}
use Rattle.wtf_model.proofs.byte_examples.writes.Goals as goal

pub returns : goal.returns
unfolding write
returns c = record {
  over = λ cap f s h o at fit. rw (o.here, o.file, at, le-leb 4 cap fit) refl;
  gap = λ cap f s h o at fit. rw (o.here, o.file, at, le-leb 4 cap fit) refl;
  to_the_end = λ f s h o at. rw (o.here, o.file, at) refl;
  too_big = λ f s h o at. rw (o.here, at) refl;
  nothing = λ cap f s h bytes o. rw o.here refl;
  closed = call-write_no_handle;
}
