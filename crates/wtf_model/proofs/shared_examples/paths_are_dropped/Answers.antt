use Rattle.wtf_model.proofs.SharedExamples.{dropped_is_gone, dropped_is_left, dropped_alone}
use Rattle.wtf_model.proofs.shared_examples.paths_are_dropped.Goals as goal

pub returns : goal.returns
returns c = record { gone = dropped_is_gone; left = dropped_is_left; others = dropped_alone }
