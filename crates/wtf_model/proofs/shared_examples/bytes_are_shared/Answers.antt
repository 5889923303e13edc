use Rattle.wtf_model.proofs.SharedExamples.{written_by_all, written_by_no_other}
use Rattle.wtf_model.proofs.shared_examples.bytes_are_shared.Goals as goal

pub returns : goal.returns
returns c = record { seen = written_by_all; others = written_by_no_other }
