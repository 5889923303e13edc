use Rattle.std.proofs.Common.{[], ◌∷◌, subst}
use Rattle.wtf_values.specs.declared.key.Key.TheVariants as keys
use Rattle.wtf_values.specs.declared.value.Value.TheVariants as value
use Rattle.wtf_imagefmt.specs.Lookups.{NodeIs}
use Rattle.wtf_image.specs.Seeds.{Adds}
use Rattle.wtf_image.proofs.SeedLaws.{adds_one}
use Rattle.wtf_image.proofs.seeding.seed_path.Goals as goal

pub returns : goal.returns
returns c =
    let n = c.args.entry.now.node in
    subst (λ p. Adds c.args.kv.now c.seed.new.self ((keys.Path p, NodeIs n) ∷ [])) c.in_ok-path.ensures
    (adds_one c.args.kv.now c.seed.new.self (keys.Path c.in_ok-path.path) (value.Node n) c.seed.ensures.number c.seed.ensures.pins c.in_ok-seed.ensures.ok)
