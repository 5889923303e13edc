use Rattle.std.proofs.Common.{◌≡◌, drop}
use Rattle.std.specs.List.{list_all}
use Rattle.wtf_imagefmt.specs.Rows.{file_rows}
use Rattle.wtf_image.specs.Rules.{is_before}
use Rattle.wtf_image.proofs.settings.files_before.Given as goal

abbrev pub invariant-loop-file : goal.invariant-loop-file
invariant-loop-file l = list_all (λ f. is_before l.tx f.inode) (file_rows (drop l.file-index l.files))
    ≡ list_all (λ f. is_before l.tx f.inode) (file_rows l.files)
