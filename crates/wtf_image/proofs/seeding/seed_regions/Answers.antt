use Rattle.std.proofs.Common.{refl, take}
use Rattle.std.specs.List.{flat_map}
use Rattle.wtf_values.specs.declared.key.Key.TheVariants as keys
use Rattle.wtf_imagefmt.specs.Rows.{region_row, region_rows}
use Rattle.wtf_imagefmt.specs.Shapes.{region_before}
use Rattle.wtf_image.specs.Seeds.{region_seed}
use Rattle.wtf_image.proofs.SeedLaws.{still_fresh, not_before, adds_more, row_here, row_inside}
use Rattle.wtf_image.proofs.Apart.{OwnsRegion, region_trans, region_apart, region_owns}
use Rattle.wtf_image.proofs.seeding.seed_regions.Goals as goal

pub seed_region-requires-clause-fresh : goal.seed_region-requires-clause-fresh
seed_region-requires-clause-fresh c =
    let i = c.args.inode in
    let all = c.args.regions.now in
    let x = c.region-item.result in
    let at = c.loop-region.region-index in
    let rows = region_rows all in
    let q = keys.Region i x.number in
    still_fresh c.args.kv.now c.loop-region.kv (flat_map (region_seed i) (take at rows)) q c.loop-region.invariant
    (not_before (region_seed i) region_before region_trans (OwnsRegion i) (region_apart i) rows at (region_row x) q c.requires.ascend
    (row_inside region_row all at c.loop-region-test.true) (row_here region_row all at x c.loop-region-test.true c.region-item.is) refl)
    (c.requires.fresh x.number)

pub loop-region-preserved : goal.loop-region-preserved
loop-region-preserved c =
    let i = c.args.inode in
    let all = c.args.regions.now in
    let x = c.region-item.result in
    let at = c.loop-region.region-index in
    let rows = region_rows all in
    let inside = row_inside region_row all at c.loop-region-test.true in
    let here = row_here region_row all at x c.loop-region-test.true c.region-item.is in
    adds_more (region_seed i) c.args.kv.now c.loop-region.kv c.seed_region.new.kv rows at
    (region_row x) inside here c.loop-region.invariant c.in_ok-seed_region.ensures
    (λ q z found. not_before (region_seed i) region_before region_trans (OwnsRegion i) (region_apart i) rows at (region_row x) q c.requires.ascend inside here
    (region_owns i (region_row x) q z found))
