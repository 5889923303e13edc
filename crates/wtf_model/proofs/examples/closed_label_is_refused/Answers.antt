use Rattle.wtf_model.proofs.CallLaws.{call-read_no_handle, call-write_no_handle, call-seek_no_handle}
use Rattle.wtf_model.proofs.examples.closed_label_is_refused.Goals as goal

pub returns : goal.returns
returns c = record { read = call-read_no_handle; write = call-write_no_handle; seek = call-seek_no_handle }
