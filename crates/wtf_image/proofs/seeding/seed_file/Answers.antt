use Rattle.std.proofs.Common.{subst}
use Rattle.std.specs.List.{flat_map}
use Rattle.wtf_imagefmt.specs.Rows.{region_rows, file_row}
use Rattle.wtf_image.specs.Seeds.{Adds, last_seed, region_seed}
use Rattle.wtf_image.proofs.SeedLaws.{adds_then}
use Rattle.wtf_image.proofs.Apart.{inode_apart}
use Rattle.wtf_image.proofs.seeding.seed_file.Goals as goal

pub returns : goal.returns
returns c =
    let f = c.args.file.now in
    adds_then c.args.kv.now c.seed_last.new.kv c.seed_regions.new.kv (last_seed f.inode f.last) (flat_map (region_seed f.inode) (region_rows f.regions.items))
    c.in_ok-seed_last.ensures
    (subst (λ rs. Adds c.seed_last.new.kv c.seed_regions.new.kv
    (flat_map (region_seed f.inode) (region_rows rs))) c.as_slice.ensures.value c.in_ok-seed_regions.ensures)
    (λ q z found. inode_apart (file_row f) q z found)
