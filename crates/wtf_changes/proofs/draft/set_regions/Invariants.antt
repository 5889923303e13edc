use Rattle.std.proofs.Common.{◌≡◌, drop}
use Rattle.wtf_changes.specs.Rows.{region_rows}
use Rattle.wtf_changes.specs.Drafts.{regions_set}
use Rattle.wtf_changes.specs.Kept.{seen, file_entry}
use Rattle.wtf_changes.proofs.draft.set_regions.Given as goal

abbrev pub invariant-loop-change : goal.invariant-loop-change
invariant-loop-change l = regions_set (seen file_entry l.files.entries) (region_rows (drop l.change-index l.changes))
    ≡ regions_set (seen file_entry l.initial.files.entries) (region_rows l.changes)
