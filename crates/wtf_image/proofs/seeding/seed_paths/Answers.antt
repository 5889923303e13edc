use Rattle.std.proofs.Common.{refl, take}
use Rattle.std.specs.List.{flat_map}
use Rattle.wtf_values.specs.declared.key.Key.TheVariants as keys
use Rattle.wtf_imagefmt.specs.Shapes.{path_before}
use Rattle.wtf_image.specs.Seeds.{path_seed}
use Rattle.wtf_image.proofs.SeedLaws.{still_fresh, not_before, adds_more}
use Rattle.wtf_image.proofs.Apart.{OwnsPath, path_trans, path_apart, path_owns}
use Rattle.wtf_image.proofs.seeding.seed_paths.Goals as goal

pub seed_path-requires-clause-fresh : goal.seed_path-requires-clause-fresh
seed_path-requires-clause-fresh c =
    let all = c.args.paths.now in
    let x = c.record-item.result in
    let at = c.loop-record.record-index in
    let q = keys.Path x.path in
    still_fresh c.args.kv.now c.loop-record.kv (flat_map path_seed (take at all)) q c.loop-record.invariant
    (not_before path_seed path_before path_trans OwnsPath path_apart all at x q c.requires.ascend c.loop-record-test.true c.record-item.is refl)
    (c.requires.fresh x.path)

pub loop-record-preserved : goal.loop-record-preserved
loop-record-preserved c =
    let all = c.args.paths.now in
    let x = c.record-item.result in
    let at = c.loop-record.record-index in
    adds_more path_seed c.args.kv.now c.loop-record.kv c.seed_path.new.kv all at x c.loop-record-test.true c.record-item.is c.loop-record.invariant
    c.in_ok-seed_path.ensures
    (λ q z found. not_before path_seed path_before path_trans OwnsPath path_apart all at x q c.requires.ascend c.loop-record-test.true c.record-item.is
    (path_owns x q z found))
