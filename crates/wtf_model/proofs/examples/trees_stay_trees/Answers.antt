use Rattle.wtf_model.proofs.TreeLaws.{IsTree-root_alone}
use Rattle.wtf_model.proofs.SessionLaws.{IsTree-session_after}
use Rattle.wtf_model.proofs.SoundLaws.{IsSoundMachine-start, IsSoundMachine-after}
use Rattle.wtf_model.proofs.examples.trees_stay_trees.Goals as goal

pub returns : goal.returns
returns c = record { first = IsTree-root_alone; run = IsTree-session_after; start = IsSoundMachine-start; step = IsSoundMachine-after }
