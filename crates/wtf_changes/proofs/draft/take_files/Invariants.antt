use Rattle.std.proofs.Common.{◌≡◌, [], drop, map}
use Rattle.wtf_values.specs.Keys.{inode_cmp}
use Rattle.wtf_imagefmt.specs.Rows.{file_rows}
use Rattle.wtf_changes.specs.Drafts.{set_all, file_taken}
use Rattle.wtf_changes.specs.Kept.{seen, file_entry}
use Rattle.wtf_changes.proofs.draft.take_files.Given as goal

abbrev pub invariant-loop-file : goal.invariant-loop-file
invariant-loop-file l = set_all inode_cmp (seen file_entry l.made.entries) (map file_taken (file_rows (drop l.file-index l.files)))
    ≡ set_all inode_cmp [] (map file_taken (file_rows l.files))
