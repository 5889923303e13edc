use Rattle.std.proofs.Common.{◌≡◌, ◌++◌, length, map}
use Rattle.wtf_imagefmt.specs.Rows.{value_row, region_rows}
use Rattle.wtf_changes.specs.Drafts.{region_written}
use Rattle.wtf_changes.specs.Kept.{seen}
use Rattle.wtf_changes.proofs.draft.write_regions.Given as goal

abbrev pub invariant-loop-number : goal.invariant-loop-number
invariant-loop-number l = region_rows l.made.items ++ map region_written (seen value_row l.rest) ≡ map region_written (seen value_row l.regions.entries)

abbrev pub decreases-loop-number : goal.decreases-loop-number
decreases-loop-number l = length l.rest
