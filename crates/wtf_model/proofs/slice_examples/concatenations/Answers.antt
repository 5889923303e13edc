use Rattle.std.proofs.Common.{refl}
use Rattle.std.proofs.lemmas.Bool.{le-leb}
use Rattle.wtf_model.specs.SliceCalls.{concat}
use Rattle.wtf_model.proofs.slice_examples.concatenations.Goals as goal

pub returns : goal.returns
unfolding concat
returns c = record {
  in_order = λ cap s q dir a b ones others f one two fit. rw (f.up, f.parent, f.free, one, two, le-leb 6 cap fit) refl;
  twice = λ cap s q dir a paths f one fit. rw (f.up, f.parent, f.free, one, le-leb 4 cap fit) refl;
  missing = λ cap s q dir a b paths f one two. rw (f.up, f.parent, f.free, one, two) refl;
  directory = λ cap s q dir a f one. rw (f.up, f.parent, f.free, one) refl;
  too_big = λ s q dir a paths f one. rw (f.up, f.parent, f.free, one) refl;
  root = λ cap s paths. refl;
}
