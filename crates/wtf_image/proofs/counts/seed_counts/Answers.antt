use Rattle.std.proofs.Common.{ℕ, refl, take, subst}
use Rattle.std.specs.List.{flat_map}
use Rattle.wtf_values.specs.declared.key.Key.TheVariants as keys
use Rattle.wtf_imagefmt.specs.Lookups.{count_row}
use Rattle.wtf_imagefmt.specs.Rows.{file_row, file_rows}
use Rattle.wtf_imagefmt.specs.Shapes.{file_before}
use Rattle.wtf_image.specs.Seeds.{Adds, count_seed, count_seed_by}
use Rattle.wtf_image.specs.Tables.{count_in}
use Rattle.wtf_image.proofs.SeedLaws.{still_fresh, not_before, adds_more, row_here, row_inside}
use Rattle.wtf_image.proofs.Apart.{OwnsCount, file_trans, count_apart, count_owns}
use Rattle.wtf_image.proofs.counts.seed_counts.Goals as goal

pub seed_count-requires-clause-fresh : goal.seed_count-requires-clause-fresh
seed_count-requires-clause-fresh c =
    let times = count_in c.args.counts.now.entries in
    let all = c.args.files.now in
    let x = c.file-item.result in
    let at = c.loop-file.file-index in
    let rows = file_rows all in
    let q = keys.Links x.inode in
    still_fresh c.args.kv.now c.loop-file.kv (flat_map (count_seed times) (take at rows)) q c.loop-file.invariant
    (not_before (count_seed times) file_before file_trans OwnsCount (count_apart times) rows at (file_row x) q c.requires.ascend
    (row_inside file_row all at c.loop-file-test.true) (row_here file_row all at x c.loop-file-test.true c.file-item.is) refl)
    (c.requires.fresh x.inode)

pub loop-file-preserved : goal.loop-file-preserved
loop-file-preserved c =
    let times = count_in c.args.counts.now.entries in
    let all = c.args.files.now in
    let x = c.file-item.result in
    let at = c.loop-file.file-index in
    let rows = file_rows all in
    let inside = row_inside file_row all at c.loop-file-test.true in
    let here = row_here file_row all at x c.loop-file-test.true c.file-item.is in
    let one = subst (λ (n : ℕ). Adds c.loop-file.kv c.seed_count.new.kv (count_seed_by x.inode (count_row n))) c.count_now.ensures c.in_ok-seed_count.ensures in
    adds_more (count_seed times) c.args.kv.now c.loop-file.kv c.seed_count.new.kv rows at (file_row x) inside here c.loop-file.invariant one
    (λ q z found. not_before (count_seed times) file_before file_trans OwnsCount (count_apart times) rows at (file_row x) q c.requires.ascend inside here
    (count_owns times (file_row x) q z found))
