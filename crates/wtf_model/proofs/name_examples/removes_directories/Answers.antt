use Rattle.std.proofs.Common.{refl}
use Rattle.wtf_model.specs.NameCalls.{rmdir}
use Rattle.wtf_model.proofs.name_examples.removes_directories.Goals as goal

pub returns : goal.returns
unfolding rmdir
returns c = record {
  taken = λ cap s there none. rw (there, none) refl;
  root = λ cap s. refl;
  missing = λ cap s none. rw none refl;
  file = λ cap s paths bytes there. rw there refl;
  not_empty = λ cap s p ps there some. rw (there, some) refl;
}
