use Rattle.wtf_meta.specs.Maps.{metadata_at}
use Rattle.wtf_files_rows.proofs.BenchLaws.{lent_on, now_on}
use Rattle.wtf_files_rows.proofs.bench.Bench.step.Goals as goal

pub invariant_of-self : goal.invariant_of-self
invariant_of-self c =
    let was = c.self.invariant in
    let did = c.step-came.ensures.step in
    let kv = c.self.inside.kv in (
      lent_on _ c.step-came.new.dev was.0 did.dev,
      record { fit = did.fit; inside = did.inside; now = now_on _ c.step-came.new.dev (metadata_at kv kv.number) was.0.enough did.dev was.1.now },
    )
