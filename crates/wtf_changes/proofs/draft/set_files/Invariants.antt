use Rattle.std.proofs.Common.{◌≡◌, drop}
use Rattle.wtf_changes.specs.Drafts.{files_set}
use Rattle.wtf_changes.specs.Kept.{seen, file_entry}
use Rattle.wtf_changes.proofs.draft.set_files.Given as goal

abbrev pub invariant-loop-change : goal.invariant-loop-change
invariant-loop-change l = files_set (seen file_entry l.files.entries) (drop l.change-index l.changes)
    ≡ files_set (seen file_entry l.initial.files.entries) l.changes
