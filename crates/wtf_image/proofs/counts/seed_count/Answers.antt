use Rattle.std.proofs.Common.{Option, sym, subst}
use Rattle.wtf_values.specs.declared.key.Key.TheVariants as keys
use Rattle.wtf_values.specs.declared.value.Value.TheVariants as value
use Rattle.wtf_imagefmt.specs.Lookups.{Plain}
use Rattle.wtf_image.specs.Seeds.{Adds, count_seed_by}
use Rattle.wtf_image.proofs.Counted.{count_few, count_kept}
use Rattle.wtf_image.proofs.SeedLaws.{adds_none, adds_one}
use Rattle.wtf_image.proofs.counts.seed_count.Goals as goal

pub returns-then-times-lt2 : goal.returns-then-times-lt2
returns-then-times-lt2 c =
    let kv = c.args.kv.now in
    subst (λ (o : Option Plain). Adds kv kv (count_seed_by c.args.inode o)) (sym (count_few c.args.times c.if-times-lt2.true)) (adds_none kv c.requires.pins)

pub returns : goal.returns
returns c =
    let old = c.args.kv.now in
    let new = c.seed.new.self in
    let i = c.args.inode in
    let n = c.args.times in
    subst (λ (o : Option Plain). Adds old new (count_seed_by i o)) (sym (count_kept n c.if-times-lt2.false))
    (adds_one old new (keys.Links i) (value.Count n) c.seed.ensures.number c.seed.ensures.pins c.in_ok-seed.ensures.ok)
