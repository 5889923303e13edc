use Rattle.std.proofs.Common.{◌≡◌, true, refl, take, subst, sym}
use Rattle.std.specs.List.{flat_map}
use Rattle.std.proofs.lemmas.List.Elements.{All-from_recursion}
use Rattle.wtf_values.specs.declared.key.Key.TheVariants as keys
use Rattle.wtf_imagefmt.specs.Rows.{FileRow, file_row, file_rows}
use Rattle.wtf_imagefmt.specs.Shapes.{file_before, ascends, region_before}
use Rattle.wtf_image.specs.Seeds.{file_seeds}
use Rattle.wtf_image.proofs.SeedLaws.{still_fresh, not_before, adds_more, row_here, row_inside}
use Rattle.wtf_image.proofs.Apart.{OwnsFile, ItsInode, ItsRegion, file_trans, file_apart, file_owns}
use Rattle.wtf_image.proofs.seeding.seed_files.Goals as goal

pub seed_file-requires-clause-ascend : goal.seed_file-requires-clause-ascend
seed_file-requires-clause-ascend c =
    let all = c.args.files.now in
    let x = c.file-item.result in
    let at = c.loop-file.file-index in
    let each = All-from_recursion (λ (f : FileRow). ascends region_before f.regions ≡ true) (file_rows all) c.requires.regions in
    subst (λ (f : FileRow). ascends region_before f.regions ≡ true) (sym (row_here file_row all at x c.loop-file-test.true c.file-item.is))
    (each at (file_row x) (row_inside file_row all at c.loop-file-test.true))

pub seed_file-requires-clause-inode : goal.seed_file-requires-clause-inode
seed_file-requires-clause-inode c =
    let all = c.args.files.now in
    let x = c.file-item.result in
    let at = c.loop-file.file-index in
    let rows = file_rows all in
    let q = keys.Inode x.inode in
    still_fresh c.args.kv.now c.loop-file.kv (flat_map file_seeds (take at rows)) q c.loop-file.invariant
    (not_before file_seeds file_before file_trans OwnsFile file_apart rows at (file_row x) q c.requires.ascend
    (row_inside file_row all at c.loop-file-test.true) (row_here file_row all at x c.loop-file-test.true c.file-item.is) (ItsInode refl))
    (c.requires.inodes x.inode)

pub seed_file-requires-clause-fresh : goal.seed_file-requires-clause-fresh
seed_file-requires-clause-fresh c = λ r.
    let all = c.args.files.now in
    let x = c.file-item.result in
    let at = c.loop-file.file-index in
    let rows = file_rows all in
    let q = keys.Region x.inode r in
    still_fresh c.args.kv.now c.loop-file.kv (flat_map file_seeds (take at rows)) q c.loop-file.invariant
    (not_before file_seeds file_before file_trans OwnsFile file_apart rows at (file_row x) q c.requires.ascend
    (row_inside file_row all at c.loop-file-test.true) (row_here file_row all at x c.loop-file-test.true c.file-item.is) (ItsRegion r refl))
    (c.requires.fresh x.inode r)

pub loop-file-preserved : goal.loop-file-preserved
loop-file-preserved c =
    let all = c.args.files.now in
    let x = c.file-item.result in
    let at = c.loop-file.file-index in
    let rows = file_rows all in
    let inside = row_inside file_row all at c.loop-file-test.true in
    let here = row_here file_row all at x c.loop-file-test.true c.file-item.is in
    adds_more file_seeds c.args.kv.now c.loop-file.kv c.seed_file.new.kv rows at (file_row x) inside here c.loop-file.invariant c.in_ok-seed_file.ensures
    (λ q z found. not_before file_seeds file_before file_trans OwnsFile file_apart rows at (file_row x) q c.requires.ascend inside here
    (file_owns (file_row x) q z found))
