use Rattle.std.proofs.Common.{◌≡◌, drop}
use Rattle.std.specs.List.{list_all}
use Rattle.wtf_imagefmt.specs.Rows.{file_rows}
use Rattle.wtf_image.specs.Rules.{is_named_times}
use Rattle.wtf_image.specs.Tables.{count_in}
use Rattle.wtf_image.proofs.tree.are_named.Given as goal

abbrev pub invariant-loop-file : goal.invariant-loop-file
invariant-loop-file l =
    list_all (λ f. is_named_times l.version (count_in l.counts.entries f.inode)) (file_rows (drop l.file-index l.files))
    ≡ list_all (λ f. is_named_times l.version (count_in l.counts.entries f.inode)) (file_rows l.files)
