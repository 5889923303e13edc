use Rattle.wtf_files_rows.proofs.BenchLaws.{lent_on}
use Rattle.wtf_files_rows.proofs.bench.Bench.commit.Goals as goal

pub invariant_of-self : goal.invariant_of-self
invariant_of-self c =
    let did = c.commit-came.ensures.commit in
    (lent_on _ c.commit-came.new.dev c.self.invariant.0 did.dev, record { fit = did.fit; inside = did.inside; now = did.inside_now })
