use Rattle.std.proofs.Common.{sym, ap, ◌∙◌}
use Rattle.std.specs.Option.{option_map}
use Rattle.std.specs.Ordering.{nat_cmp}
use Rattle.std.specs.BTreeMap.{insert_entry}
use Rattle.wtf_imagefmt.specs.Rows.{value_row}
use Rattle.wtf_changes.specs.Drafts.{set}
use Rattle.wtf_changes.specs.Kept.{seen}
use Rattle.wtf_changes.proofs.Seen.{insert-seen, remove-seen}
use Rattle.wtf_changes.proofs.Drafted.{none_by}
use Rattle.wtf_changes.proofs.draft.set_value.Goals as goal

pub returns-in_default : goal.returns-in_default
returns-in_default c =
    let es = c.args.regions.now.entries in
    let n = c.args.number in
    ap (seen value_row) c.remove.ensures.entries ∙ remove-seen nat_cmp value_row es n
    ∙ sym (ap (λ o. set nat_cmp (seen value_row es) n (option_map value_row o)) (none_by c.args.value.now c.in_default.not-Some))

pub returns : goal.returns
returns c =
    let es = c.args.regions.now.entries in
    let n = c.args.number in
    ap (seen value_row) (c.in_ok-insert.ensures.entries ∙ ap (λ v. insert_entry nat_cmp es n v) c.in_ok-value.ensures)
    ∙ insert-seen nat_cmp value_row es n c.in-Some.value ∙ sym (ap (λ o. set nat_cmp (seen value_row es) n (option_map value_row o)) c.in-Some.is)
