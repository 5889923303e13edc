use Rattle.std.proofs.Common.{◌≡◌, drop}
use Rattle.wtf_imagefmt.specs.Rows.{region_row, region_rows}
use Rattle.wtf_imagefmt.specs.Shapes.{ascends_from, ascends, region_before}
use Rattle.wtf_imagefmt.proofs.order.regions_ascend.Given as goal

abbrev pub invariant-loop-region : goal.invariant-loop-region
invariant-loop-region l = ascends_from region_before (region_row l.before) (region_rows (drop l.region-index l.rest))
    ≡ ascends region_before (region_rows l.regions)
