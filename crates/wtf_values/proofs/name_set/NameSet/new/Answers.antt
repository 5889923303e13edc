use Rattle.wtf_values.proofs.NameLaws.{set_of-nil}
use Rattle.wtf_values.proofs.name_set.NameSet.new.Goals as goal

pub returns : goal.returns
returns c = set_of-nil
