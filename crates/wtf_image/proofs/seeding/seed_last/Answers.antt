use Rattle.wtf_values.specs.declared.key.Key.TheVariants as keys
use Rattle.wtf_values.specs.declared.value.Value.TheVariants as value
use Rattle.wtf_image.proofs.SeedLaws.{adds_one, on_ok}
use Rattle.wtf_image.proofs.seeding.seed_last.Goals as goal

pub returns : goal.returns
returns c =
    on_ok c.seed.result
    (adds_one c.args.kv.now c.seed.new.self (keys.Inode c.args.inode) (value.Last c.args.last) c.seed.ensures.number c.seed.ensures.pins) c.seed.ensures.ok
