use Rattle.std.proofs.Common.{ℕ, sym, ap, ◌∙◌}
use Rattle.std.specs.Option.{option_copied}
use Rattle.wtf_values.specs.declared.key.Key.TheVariants.{Region}
use Rattle.wtf_meta.specs.FileEdits.{region_of}
use Rattle.wtf_meta.specs.Maps.{metadata_at}
use Rattle.wtf_compact.specs.Jobs.{target_region}
use Rattle.wtf_compact.proofs.Plans.{planned_none}
use Rattle.wtf_compact.proofs.Sparing.{spares_all}
use Rattle.wtf_compact.proofs.planning.planned.Goals as goal

pub returns-in_default-clause-planned : goal.returns-in_default-clause-planned
returns-in_default-clause-planned g c =
    let kv = c.args.kv.now in
    let t = c.args.target in
    planned_none g.S.SliceStore.kind c.args.dev.now t (target_region (metadata_at kv kv.number) t)
    (ap (λ (n : ℕ). region_of (metadata_at kv n (Region t.inode t.region))) (sym c.number.ensures.number)
    ∙ ap region_of (sym c.read_at.ensures) ∙ sym c.region_in.ensures ∙ ap option_copied c.in_default.is)

pub returns-in_default-clause-spares : goal.returns-in_default-clause-spares
returns-in_default-clause-spares g c =
    let kv = c.args.kv.now in
    spares_all g.S.SliceStore.kind c.args.dev.now c.args.target (target_region (metadata_at kv kv.number) c.args.target)
