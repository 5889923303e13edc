use Rattle.wtf_model.proofs.Worked.{first_file, first_file_bytes, first_file_number}
use Rattle.wtf_model.proofs.examples.first_file_is_accepted.Goals as goal

pub returns : goal.returns
returns c = record { accepted = first_file; bytes = first_file_bytes; number = first_file_number }
