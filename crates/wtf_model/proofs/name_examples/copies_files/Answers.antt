use Rattle.std.proofs.Common.{refl}
use Rattle.wtf_model.specs.SliceCalls.{copy}
use Rattle.wtf_model.proofs.name_examples.copies_files.Goals as goal

pub returns : goal.returns
unfolding copy
returns c = record {
  copied = λ cap s p q dir paths bytes there f. rw (there, f.up, f.parent, f.free) refl;
  onto_itself = λ cap s paths bytes top there. rw (there, top) refl;
  directory = λ cap s p q there. rw there refl;
  missing = λ cap s p q none. rw none refl;
}
