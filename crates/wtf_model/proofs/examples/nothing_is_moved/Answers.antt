use Rattle.wtf_model.proofs.CallLaws.{call-read_past, call-write_none}
use Rattle.wtf_model.proofs.examples.nothing_is_moved.Goals as goal

pub returns : goal.returns
returns c = record { read = call-read_past; write = call-write_none }
