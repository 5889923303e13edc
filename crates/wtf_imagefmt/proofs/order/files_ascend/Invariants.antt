use Rattle.std.proofs.Common.{◌≡◌, drop}
use Rattle.wtf_imagefmt.specs.Rows.{file_row, file_rows}
use Rattle.wtf_imagefmt.specs.Shapes.{ascends_from, ascends, file_before}
use Rattle.wtf_imagefmt.proofs.order.files_ascend.Given as goal

abbrev pub invariant-loop-file : goal.invariant-loop-file
invariant-loop-file l = ascends_from file_before (file_row l.before) (file_rows (drop l.file-index l.rest)) ≡ ascends file_before (file_rows l.files)
