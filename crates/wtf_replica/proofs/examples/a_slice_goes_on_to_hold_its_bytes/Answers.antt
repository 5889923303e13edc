use Rattle.wtf_replica.proofs.Bytes.{slice_kept}
use Rattle.wtf_replica.proofs.examples.a_slice_goes_on_to_hold_its_bytes.Goals as goal

pub returns : goal.returns
returns g c = λ old new s bytes e holds. slice_kept g.met.S.SliceStore.laws e s bytes holds
