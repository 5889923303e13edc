use Rattle.wtf_meta.proofs.Putting.{stands-put}
use Rattle.wtf_meta.proofs.examples.regions_may_be_put.Goals as goal

pub returns : goal.returns
returns c = stands-put
