use Rattle.std.proofs.Common.{[], ◌∷◌, subst}
use Rattle.wtf_values.specs.declared.key.Key.TheVariants as keys
use Rattle.wtf_values.specs.declared.value.Value.TheVariants as value
use Rattle.wtf_imagefmt.specs.Lookups.{plain}
use Rattle.wtf_image.specs.Seeds.{Adds}
use Rattle.wtf_image.proofs.SeedLaws.{adds_one}
use Rattle.wtf_image.proofs.seeding.seed_region.Goals as goal

pub returns : goal.returns
returns c =
    let k = keys.Region c.args.inode c.args.region.now.number in
    let v = c.in_ok-value.value in
    subst (λ x. Adds c.args.kv.now c.seed.new.self ((k, plain (value.Region x)) ∷ [])) c.in_ok-value.ensures
    (adds_one c.args.kv.now c.seed.new.self k (value.Region v) c.seed.ensures.number c.seed.ensures.pins c.in_ok-seed.ensures.ok)
