use Rattle.std.proofs.Common.{refl}
use Rattle.wtf_model.specs.NameCalls.{mkdir}
use Rattle.wtf_model.proofs.name_examples.makes_directories.Goals as goal

pub returns : goal.returns
unfolding mkdir
returns c = record {
  made = λ cap s p dir f. rw (f.up, f.parent, f.free) refl;
  root = λ cap s. refl;
  exists = λ cap s n top there. rw (top, there) refl;
  no_parent = λ cap s none. rw none refl;
}
