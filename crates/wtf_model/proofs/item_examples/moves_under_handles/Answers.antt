use Rattle.wtf_model.proofs.ItemExamples.{moved_away, taken_out}
use Rattle.wtf_model.proofs.item_examples.moves_under_handles.Goals as goal

pub returns : goal.returns
returns c = record { moved = moved_away; unlinked = taken_out }
