use Rattle.std.proofs.Common.{◌≡◌, drop, map}
use Rattle.std.specs.Ordering.{nat_cmp}
use Rattle.wtf_imagefmt.specs.Rows.{value_row, region_rows}
use Rattle.wtf_changes.specs.Drafts.{set_all, value_taken, regions_taken}
use Rattle.wtf_changes.specs.Kept.{seen}
use Rattle.wtf_changes.proofs.draft.take_regions.Given as goal

abbrev pub invariant-loop-region : goal.invariant-loop-region
invariant-loop-region l = set_all nat_cmp (seen value_row l.made.entries) (map value_taken (region_rows (drop l.region-index l.regions)))
    ≡ regions_taken (region_rows l.regions)
