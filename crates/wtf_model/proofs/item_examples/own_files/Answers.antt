use Rattle.wtf_model.proofs.ItemExamples.{own, own_beside, own_same}
use Rattle.wtf_model.proofs.item_examples.own_files.Goals as goal

pub returns : goal.returns
returns c = record { read = own; beside = own_beside; same = own_same }
