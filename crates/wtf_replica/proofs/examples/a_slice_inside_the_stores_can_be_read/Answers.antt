use Rattle.std.proofs.Common.{inr}
use Rattle.wtf_replica.proofs.InsideLaws.{slice_from}
use Rattle.wtf_replica.proofs.examples.a_slice_inside_the_stores_can_be_read.Goals as goal

pub returns : goal.returns
returns g c = λ servers shelf down s enough inside k d below. inr ((slice_from g.S.SliceStore.kind shelf servers s enough inside).1 k d below)
