use Rattle.wtf_model.proofs.SharedExamples.{added_is_there, added_is_kept}
use Rattle.wtf_model.proofs.shared_examples.paths_are_added.Goals as goal

pub returns : goal.returns
returns c = record { there = added_is_there; kept = added_is_kept }
