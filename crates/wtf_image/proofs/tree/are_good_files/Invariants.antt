use Rattle.std.proofs.Common.{◌≡◌, drop}
use Rattle.std.specs.List.{list_all}
use Rattle.wtf_imagefmt.specs.Rows.{file_rows}
use Rattle.wtf_image.specs.Rules.{is_good_file}
use Rattle.wtf_image.proofs.tree.are_good_files.Given as goal

abbrev pub invariant-loop-file : goal.invariant-loop-file
invariant-loop-file l = list_all (is_good_file l.region) (file_rows (drop l.file-index l.files)) ≡ list_all (is_good_file l.region) (file_rows l.files)
