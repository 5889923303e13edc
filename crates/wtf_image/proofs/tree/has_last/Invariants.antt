use Rattle.std.proofs.Common.{◌≡◌, drop}
use Rattle.std.specs.List.{list_any}
use Rattle.wtf_imagefmt.specs.Rows.{region_rows}
use Rattle.wtf_image.specs.Rules.{is_last}
use Rattle.wtf_image.proofs.tree.has_last.Given as goal

abbrev pub invariant-loop-r : goal.invariant-loop-r
invariant-loop-r l = list_any (is_last l.last) (region_rows (drop l.r-index l.regions)) ≡ list_any (is_last l.last) (region_rows l.regions)
