use Rattle.std.proofs.Common.{◌≡◌, true, take}
use Rattle.std.specs.List.{list_all}
use Rattle.wtf_imagefmt.specs.Rows.{entry_rows}
use Rattle.wtf_image.specs.Rules.{is_lost, is_part_inside_without, size_in}
use Rattle.wtf_image.proofs.inside.is_list_inside.Given as goal

abbrev pub invariant-loop-i : goal.invariant-loop-i
invariant-loop-i g l =
    list_all (λ e. is_part_inside_without (is_lost l.lost) l.servers (size_in g.S.SliceStore.kind l.shelf) e.part) (entry_rows (take l.i l.list)) ≡ true
