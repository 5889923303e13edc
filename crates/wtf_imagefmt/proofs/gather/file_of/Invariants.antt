use Rattle.std.proofs.Common.{◌≡◌}
use Rattle.wtf_imagefmt.specs.Rows.{region_rows}
use Rattle.wtf_imagefmt.specs.Shown.{shown}
use Rattle.wtf_imagefmt.specs.Saving.{regions_below, region_in}
use Rattle.wtf_imagefmt.proofs.gather.file_of.Given as goal

abbrev pub invariant-loop-r : goal.invariant-loop-r
invariant-loop-r l = region_rows l.regions.items ≡ regions_below (region_in (shown l.kv) l.inode) l.r
