use Rattle.std.proofs.Common.{drop, ◌+◌, sym, ◌∙◌}
use Rattle.wtf_changes.specs.Rows.{region_row, region_rows}
use Rattle.wtf_changes.specs.Drafts.{regions_set}
use Rattle.wtf_changes.specs.Kept.{seen, file_entry}
use Rattle.wtf_changes.proofs.Steps.{at_front, stepped}
use Rattle.wtf_changes.proofs.Drafted.{regions_later, regions_unmade}
use Rattle.wtf_changes.proofs.draft.set_regions.Goals as goal

pub loop-change-preserved : goal.loop-change-preserved
loop-change-preserved c =
    let cs = c.args.changes.now in
    let i = c.loop-change.change-index in
    let es = seen file_entry c.loop-change.files.entries in
    let next = seen file_entry c.set_region.new.files.entries in
    stepped (λ es cs. regions_set es (region_rows cs)) cs i c.change-item.result c.loop-change-test.true c.change-item.is
    es next (regions_set (seen file_entry c.args.files.now.entries) (region_rows cs))
    (regions_later es (region_row c.change-item.result) (region_rows (drop (i + 1) cs)) next c.in-Ok.ensures) c.loop-change.invariant

pub returns-in-Err : goal.returns-in-Err
returns-in-Err c =
    let cs = c.args.changes.now in
    let i = c.loop-change.change-index in
    let es = seen file_entry c.loop-change.files.entries in
    regions_unmade es (region_row c.change-item.result) (region_rows (drop (i + 1) cs))
    (regions_set (seen file_entry c.args.files.now.entries) (region_rows cs)) c.in-Err.why
    (sym (at_front (λ es cs. regions_set es (region_rows cs)) cs i c.change-item.result c.loop-change-test.true c.change-item.is es)
    ∙ c.loop-change.invariant) c.in-Err.ensures
