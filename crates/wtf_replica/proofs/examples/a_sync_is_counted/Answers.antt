use Rattle.wtf_replica.proofs.Reading.{none_synced}
use Rattle.wtf_replica.proofs.examples.a_sync_is_counted.Goals as goal

pub returns : goal.returns
returns g c = none_synced g.S.SliceStore.kind
