use Rattle.std.proofs.Common.{ℕ, List, subst}
use Rattle.wtf_base.specs.declared.ids.InodeId.{InodeId}
use Rattle.wtf_values.specs.declared.key.Key.TheVariants.{Path}
use Rattle.wtf_meta.specs.Maps.{Map, metadata_at}
use Rattle.wtf_meta.specs.Trees.{LeadsTo}
use Rattle.wtf_meta.proofs.Standing.{one_leads}
use Rattle.wtf_region.specs.declared.dev.Dev.{Dev}
use Rattle.wtf_compact.specs.Jobs.{job_target, region_in_map}
use Rattle.wtf_compact.specs.Planned.{RemembersItsBase}
use Rattle.wtf_compact.proofs.Sparing.{spares_all, its_spares}
use Rattle.wtf_compact.proofs.planning.made.Goals as goal

-- a path leads to one file
its_base : {S : Type 0} (old new : Dev S) (w : Map) (p : List ℕ) (r : ℕ) (i : InodeId) → LeadsTo w p i → RemembersItsBase old new (region_in_map w i r)
    → (j : InodeId) → LeadsTo w p j → RemembersItsBase old new (region_in_map w j r)
its_base old new w p r i leads h j other = subst (λ k. RemembersItsBase old new (region_in_map w k r)) (one_leads (w (Path p)) i j leads other) h

pub returns-in-Ok-planned-clause-only : goal.returns-in-Ok-planned-clause-only
returns-in-Ok-planned-clause-only g c =
    let kv = c.args.kv.now in
    its_base c.args.dev.now c.planned.new.dev (metadata_at kv kv.number) c.args.p.now c.args.region c.in-Ok-file_at.inode c.in-Ok-file_at.ensures.leads
    c.planned.ensures.only

pub returns-in-Err-planned-clause-only : goal.returns-in-Err-planned-clause-only
returns-in-Err-planned-clause-only g c =
    let kv = c.args.kv.now in
    its_base c.args.dev.now c.planned.new.dev (metadata_at kv kv.number) c.args.p.now c.args.region c.in-Ok-file_at.inode c.in-Ok-file_at.ensures.leads
    c.planned.ensures.only

pub returns-in-Ok-planned-clause-spares : goal.returns-in-Ok-planned-clause-spares
returns-in-Ok-planned-clause-spares g c =
    let kv = c.args.kv.now in
    its_spares g.S.SliceStore.kind c.args.dev.now c.planned.new.dev (metadata_at kv kv.number) c.args.p.now c.args.region c.args.kind c.in-Ok-file_at.inode
    c.in-Ok-file_at.ensures.leads c.planned.ensures.spares

pub returns-in-Err-planned-clause-spares : goal.returns-in-Err-planned-clause-spares
returns-in-Err-planned-clause-spares g c =
    let kv = c.args.kv.now in
    its_spares g.S.SliceStore.kind c.args.dev.now c.planned.new.dev (metadata_at kv kv.number) c.args.p.now c.args.region c.args.kind c.in-Ok-file_at.inode
    c.in-Ok-file_at.ensures.leads c.planned.ensures.spares

pub returns-in-Err-clause-spares : goal.returns-in-Err-clause-spares
returns-in-Err-clause-spares g c = λ i leads.
    let kv = c.args.kv.now in
    spares_all g.S.SliceStore.kind c.args.dev.now (job_target i c.args.region c.args.kind) (region_in_map (metadata_at kv kv.number) i c.args.region)

pub returns-in-Err-file_at-clause-spares : goal.returns-in-Err-file_at-clause-spares
returns-in-Err-file_at-clause-spares g c = λ i leads.
    let kv = c.args.kv.now in
    spares_all g.S.SliceStore.kind c.args.dev.now (job_target i c.args.region c.args.kind) (region_in_map (metadata_at kv kv.number) i c.args.region)
