use Rattle.wtf_meta.specs.Maps.{metadata_at}
use Rattle.wtf_compact.specs.Jobs.{target_region}
use Rattle.wtf_compact.proofs.Keeping.{keeps_region}
use Rattle.wtf_compact.proofs.planning.plan.Goals as goal

pub returns-in-Ok-pin-clause-keeps : goal.returns-in-Ok-pin-clause-keeps
returns-in-Ok-pin-clause-keeps g c = λ ranges tells.
    let job = c.in-Ok.job in
    let kv = c.args.kv.now in
    keeps_region g.met.S.SliceStore.laws c.made.ensures.dev job.target ranges (target_region (metadata_at kv kv.number) job.target) job.value
    c.in-Ok.ensures.planned tells
