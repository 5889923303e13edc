use Rattle.std.proofs.Common.{refl}
use Rattle.wtf_model.specs.NameCalls.{link}
use Rattle.wtf_model.proofs.name_examples.links_files.Goals as goal

pub returns : goal.returns
unfolding link
returns c = record {
  linked = λ cap s p q dir paths bytes there f. rw (there, f.up, f.parent, f.free) refl;
  onto_itself = λ cap s paths bytes top there. rw (there, top) refl;
  directory = λ cap s p q there. rw there refl;
  missing = λ cap s p q none. rw none refl;
  no_parent = λ cap s p paths bytes there none. rw (there, none) refl;
}
