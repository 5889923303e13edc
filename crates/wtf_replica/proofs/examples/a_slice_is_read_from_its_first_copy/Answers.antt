use Rattle.wtf_replica.proofs.Reading.{read_from_first}
use Rattle.wtf_replica.proofs.examples.a_slice_is_read_from_its_first_copy.Goals as goal

pub returns : goal.returns
returns g c = read_from_first g.S.SliceStore.kind
