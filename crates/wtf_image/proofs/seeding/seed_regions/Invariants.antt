use Rattle.std.proofs.Common.{take}
use Rattle.std.specs.List.{flat_map}
use Rattle.wtf_imagefmt.specs.Rows.{region_rows}
use Rattle.wtf_image.specs.Seeds.{Adds, region_seed}
use Rattle.wtf_image.proofs.seeding.seed_regions.Given as goal

abbrev pub invariant-loop-region : goal.invariant-loop-region
invariant-loop-region l = Adds l.initial.kv l.kv (flat_map (region_seed l.inode) (take l.region-index (region_rows l.regions)))
