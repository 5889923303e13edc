use Rattle.wtf_meta.proofs.Starting.{stands-first}
use Rattle.wtf_meta.proofs.examples.the_first_map_stands.Goals as goal

pub returns : goal.returns
returns c = stands-first
