use Rattle.std.proofs.Common.{◌≡◌, drop}
use Rattle.std.specs.List.{list_all}
use Rattle.wtf_imagefmt.specs.Rows.{region_rows}
use Rattle.wtf_image.specs.Rules.{is_good_region}
use Rattle.wtf_image.proofs.tree.are_good_regions.Given as goal

abbrev pub invariant-loop-r : goal.invariant-loop-r
invariant-loop-r l = list_all (is_good_region l.region l.last) (region_rows (drop l.r-index l.regions))
    ≡ list_all (is_good_region l.region l.last) (region_rows l.regions)
