use Rattle.wtf_model.proofs.Laws.{length-written, written_before, written_within, written_after}
use Rattle.wtf_model.proofs.examples.written_bytes_are_in_place.Goals as goal

pub returns : goal.returns
returns c = record { length = length-written; before = written_before; within = written_within; behind = written_after }
