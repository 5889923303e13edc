use Rattle.std.proofs.Common.{refl}
use Rattle.wtf_values.specs.Names.{with_name}
use Rattle.wtf_values.proofs.NameLaws.{has-added, has-taken, has-other, with-there}
use Rattle.wtf_values.proofs.examples.changes_names.Goals as goal

pub returns : goal.returns
returns c = record {
  added = has-added;
  twice = λ s name. with-there (with_name s name) name (has-added s name);
  taken = has-taken;
  others = has-other;
  missing = λ name. refl;
}
