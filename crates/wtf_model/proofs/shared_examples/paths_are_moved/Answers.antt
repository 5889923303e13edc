use Rattle.wtf_model.proofs.SharedExamples.{moved_is_gone, moved_is_there, moved_is_kept}
use Rattle.wtf_model.proofs.shared_examples.paths_are_moved.Goals as goal

pub returns : goal.returns
returns c = record { gone = moved_is_gone; there = moved_is_there; kept = moved_is_kept }
