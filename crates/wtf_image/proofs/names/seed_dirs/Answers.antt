use Rattle.std.proofs.Common.{refl, take, subst}
use Rattle.std.specs.List.{flat_map}
use Rattle.wtf_values.specs.declared.key.Key.TheVariants as keys
use Rattle.wtf_imagefmt.specs.Shapes.{path_before}
use Rattle.wtf_image.specs.Seeds.{Adds, dir_seed, dir_seed_by}
use Rattle.wtf_image.proofs.SeedLaws.{still_fresh, not_before, adds_more}
use Rattle.wtf_image.proofs.Apart.{OwnsDir, path_trans, dir_apart, dir_owns}
use Rattle.wtf_image.proofs.names.seed_dirs.Goals as goal

pub seed_dir-requires-clause-fresh : goal.seed_dir-requires-clause-fresh
seed_dir-requires-clause-fresh c =
    let all = c.args.paths.now in
    let x = c.entry-item.result in
    let at = c.loop-entry.entry-index in
    let q = keys.Dir x.path in
    still_fresh c.args.kv.now c.loop-entry.kv (flat_map (dir_seed all) (take at all)) q c.loop-entry.invariant
    (not_before (dir_seed all) path_before path_trans OwnsDir (dir_apart all) all at x q c.requires.ascend c.loop-entry-test.true c.entry-item.is refl)
    (c.requires.fresh x.path)

pub loop-entry-preserved : goal.loop-entry-preserved
loop-entry-preserved c =
    let all = c.args.paths.now in
    let x = c.entry-item.result in
    let at = c.loop-entry.entry-index in
    let one = subst (λ names. Adds c.loop-entry.kv c.seed_dir.new.kv (dir_seed_by names x.path x.node)) (c.requires.dirs x.path) c.in_ok-seed_dir.ensures in
    adds_more (dir_seed all) c.args.kv.now c.loop-entry.kv c.seed_dir.new.kv all at x c.loop-entry-test.true c.entry-item.is c.loop-entry.invariant one
    (λ q z found. not_before (dir_seed all) path_before path_trans OwnsDir (dir_apart all) all at x q c.requires.ascend c.loop-entry-test.true c.entry-item.is
    (dir_owns all x q z found))
