use Rattle.std.proofs.Common.{refl}
use Rattle.wtf_model.proofs.ExampleTrees.{entries-logs}
use Rattle.wtf_model.specs.NameCalls.{list}
use Rattle.wtf_model.proofs.name_examples.lists_names.Goals as goal

pub returns : goal.returns
unfolding list
returns c = record {
  root = rw entries-logs refl;
  deeper = rw entries-logs refl;
  shown = rw entries-logs refl;
  listed = λ cap s is top. rw (top, is, entries-logs) refl;
  file = λ cap s p paths bytes there. rw there refl;
  missing = λ cap s p none. rw none refl;
}
