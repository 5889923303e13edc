use Rattle.std.proofs.Common.{sym, ◌∙◌}
use Rattle.wtf_replica.specs.Downs.{is_down}
use Rattle.wtf_replica.proofs.Spans.{risen_if_up}
use Rattle.wtf_replica.proofs.replicas.Replicas.sync_if_up.Goals as goal

pub returns-clause-failed : goal.returns-clause-failed
returns-clause-failed g c = λ no.
    risen_if_up g.S.SliceStore.kind (is_down c.args.self.now) c.args.shelf.now c.try_sync.new.shelf c.args.k (sym c.is_down.ensures ∙ c.if-is_down.false) (c.try_sync.ensures.out no)
