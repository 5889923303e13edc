use Rattle.std.proofs.Common.{◌≡◌, drop}
use Rattle.std.specs.List.{list_all}
use Rattle.wtf_imagefmt.specs.Rows.{file_rows}
use Rattle.wtf_image.specs.Rules.{is_lost, is_file_inside_without, size_in}
use Rattle.wtf_image.proofs.inside.are_files_inside.Given as goal

abbrev pub invariant-loop-file : goal.invariant-loop-file
invariant-loop-file g l =
    list_all (is_file_inside_without (is_lost l.lost) l.servers (size_in g.S.SliceStore.kind l.shelf))
    (file_rows (drop l.file-index l.files))
    ≡ list_all (is_file_inside_without (is_lost l.lost) l.servers (size_in g.S.SliceStore.kind l.shelf))
    (file_rows l.files)
