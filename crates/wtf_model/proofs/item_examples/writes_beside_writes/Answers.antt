use Rattle.wtf_model.proofs.ItemExamples.{beside}
use Rattle.wtf_model.proofs.item_examples.writes_beside_writes.Goals as goal

pub returns : goal.returns
returns c = beside
