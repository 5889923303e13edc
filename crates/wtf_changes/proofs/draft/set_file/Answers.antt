use Rattle.std.proofs.Common.{refl, sym, ap, ◌∙◌}
use Rattle.std.specs.Option.{option_map}
use Rattle.std.specs.BTreeMap.{insert_entry}
use Rattle.wtf_values.specs.Keys.{inode_cmp}
use Rattle.wtf_changes.specs.declared.draft.FileDraft.{FileDraft}
use Rattle.wtf_changes.specs.Drafts.{file_set, regions_kept}
use Rattle.wtf_changes.specs.Kept.{seen, file_entry}
use Rattle.wtf_changes.proofs.Drafted.{none_by, file_gone, file_stays}
use Rattle.wtf_changes.proofs.draft.set_file.Goals as goal

pub returns-in_default : goal.returns-in_default
returns-in_default c =
    let es = c.args.files.now.entries in
    let i = c.args.change.inode in
    ap (seen file_entry) c.remove-found.ensures.entries ∙ file_gone es i
    ∙ sym (ap (file_set (seen file_entry es) i) (none_by c.args.change.last c.in_default.not-Some))

pub returns : goal.returns
returns c =
    let es = c.args.files.now.entries in
    let i = c.args.change.inode in
    let n = c.in-Some.last in
    let f : FileDraft = record { last = n; regions = c.kept-regions.result } in
    let regions = c.kept-regions.ensures ∙ ap (λ o. regions_kept (option_map file_entry o)) c.remove-found.ensures.value in
    ap (seen file_entry) (c.in_ok-insert.ensures.entries ∙ ap (λ l. insert_entry inode_cmp l i f) c.remove-found.ensures.entries)
    ∙ file_stays es i n f refl regions ∙ sym (ap (file_set (seen file_entry es) i) c.in-Some.is)
