use Rattle.std.proofs.Common.{◌≡◌, drop}
use Rattle.std.specs.List.{list_all}
use Rattle.wtf_imagefmt.specs.Rows.{region_rows}
use Rattle.wtf_image.specs.Rules.{is_lost, is_region_inside_without, size_in}
use Rattle.wtf_image.proofs.inside.are_regions_inside.Given as goal

abbrev pub invariant-loop-region : goal.invariant-loop-region
invariant-loop-region g l =
    list_all (is_region_inside_without (is_lost l.lost) l.servers (size_in g.S.SliceStore.kind l.shelf))
    (region_rows (drop l.region-index l.regions))
    ≡ list_all (is_region_inside_without (is_lost l.lost) l.servers (size_in g.S.SliceStore.kind l.shelf))
    (region_rows l.regions)
