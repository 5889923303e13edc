use Rattle.std.proofs.Common.{refl}
use Rattle.wtf_model.specs.NameCalls.{rename}
use Rattle.wtf_model.proofs.name_examples.renames_files.Goals as goal

pub returns : goal.returns
unfolding rename
returns c = record {
  moved = λ cap s p q dir paths bytes there closed f. rw (there, closed, f.up, f.parent, f.free) refl;
  replaces_nothing = λ cap s paths bytes other there closed top taken. rw (there, closed, top, taken) refl;
  busy = λ cap s p q paths bytes there busy. rw (there, busy) refl;
  directory = λ cap s p q there. rw there refl;
  no_parent = λ cap s p paths bytes there closed none. rw (there, closed, none) refl;
}
