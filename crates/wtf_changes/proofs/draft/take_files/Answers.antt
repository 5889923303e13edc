use Rattle.std.proofs.Common.{ℕ, List, map, drop, ◌+◌, [], ap, ◌∙◌}
use Rattle.wtf_values.specs.Keys.{inode_cmp}
use Rattle.std.specs.BTreeMap.{insert_entry}
use Rattle.wtf_imagefmt.specs.Rows.{ValueRow, region_rows, file_rows}
use Rattle.wtf_changes.specs.Drafts.{FileEntry, set_all, regions_taken, file_taken}
use Rattle.wtf_changes.specs.declared.draft.FileDraft.{FileDraft}
use Rattle.wtf_changes.specs.Kept.{seen, file_entry}
use Rattle.wtf_changes.proofs.Seen.{insert-seen}
use Rattle.wtf_changes.proofs.Steps.{stepped}
use Rattle.wtf_changes.proofs.draft.take_files.Goals as goal

pub loop-file-preserved : goal.loop-file-preserved
loop-file-preserved c =
    let fs = c.args.files.now in
    let f = c.file-item.result in
    let i = c.loop-file.file-index in
    let es = c.loop-file.made.entries in
    let draft : FileDraft = record { last = f.last; regions = c.in_ok-regions.regions } in
    let entry : List (ℕ × ValueRow) → FileEntry = λ rs. record { last = f.last; regions = rs } in
    let made = ap (seen file_entry) c.in_ok-insert.ensures.entries ∙ insert-seen inode_cmp file_entry es f.inode draft
    ∙ ap (λ rs. insert_entry inode_cmp (seen file_entry es) f.inode (entry rs))
    (c.in_ok-regions.ensures ∙ ap (λ rs. regions_taken (region_rows rs)) c.as_slice.ensures.value) in
    stepped (λ es fs. set_all inode_cmp es (map file_taken (file_rows fs))) fs i f c.loop-file-test.true c.file-item.is
    (seen file_entry es) (seen file_entry c.insert.new.self.entries) (set_all inode_cmp [] (map file_taken (file_rows fs)))
    (ap (λ es. set_all inode_cmp es (map file_taken (file_rows (drop (i + 1) fs)))) made) c.loop-file.invariant
