use Rattle.std.proofs.Common.{refl}
use Rattle.wtf_model.specs.HandleCalls.{open_file, close, tell}
use Rattle.wtf_model.proofs.byte_examples.handles.Goals as goal

pub returns : goal.returns
unfolding open_file close tell
returns c = record {
  tell = λ cap f s h here. rw here refl;
  tell_closed = λ cap f s none. rw none refl;
  close = λ cap f s h here. rw here refl;
  close_closed = λ cap f s none. rw none refl;
  open_taken = λ cap f p s h here. rw here refl;
}
