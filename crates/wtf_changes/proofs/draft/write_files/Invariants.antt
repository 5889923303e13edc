use Rattle.std.proofs.Common.{◌≡◌, ◌++◌, length, map}
use Rattle.wtf_imagefmt.specs.Rows.{file_rows}
use Rattle.wtf_changes.specs.Drafts.{file_written}
use Rattle.wtf_changes.specs.Kept.{seen, file_entry}
use Rattle.wtf_changes.proofs.draft.write_files.Given as goal

abbrev pub invariant-loop-inode : goal.invariant-loop-inode
invariant-loop-inode l = file_rows l.made.items ++ map file_written (seen file_entry l.rest) ≡ map file_written (seen file_entry l.files.entries)

abbrev pub decreases-loop-inode : goal.decreases-loop-inode
decreases-loop-inode l = length l.rest
