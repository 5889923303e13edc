use Rattle.std.proofs.Common.{refl}
use Rattle.std.proofs.lemmas.Bool.{le-leb}
use Rattle.wtf_model.specs.SliceCalls.{paste, glue}
use Rattle.wtf_model.specs.ByteCalls.{write, append}
use Rattle.wtf_model.proofs.slice_examples.pastes_and_glues.Goals as goal

pub returns : goal.returns
unfolding paste glue write append
returns c = record {
  paste = λ cap f label s h o at is fit. rw (o.here, is, o.here, o.file, at, le-leb 4 cap fit) refl;
  paste_nothing = λ cap f label s h here is. rw (here, is, here) refl;
  paste_unset = λ cap f label s h here is. rw (here, is) refl;
  paste_closed = λ cap f label s none. rw none refl;
  paste_too_big = λ f label s h o at is. rw (o.here, is, o.here, at) refl;
  glue = λ cap f label s h o is fit. rw (o.here, is, o.file, le-leb 8 cap fit) refl;
  glue_unset = λ cap f label s h here is. rw (here, is) refl;
  glue_closed = λ cap f label s none. rw none refl;
  glue_too_big = λ f label s h o is. rw (o.here, is, o.file) refl;
}
