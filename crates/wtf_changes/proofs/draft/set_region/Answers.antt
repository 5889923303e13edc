use Rattle.std.proofs.Common.{◌≡◌, Some, refl, sym, ap, subst, ◌∙◌}
use Rattle.std.specs.Option.{IfNone}
use Rattle.std.specs.BTreeMap.{insert_entry}
use Rattle.wtf_values.specs.Keys.{inode_cmp}
use Rattle.wtf_changes.specs.declared.draft.FileDraft.{FileDraft}
use Rattle.wtf_changes.specs.Rows.{region_row}
use Rattle.wtf_changes.specs.Kept.{seen, file_entry}
use Rattle.wtf_changes.proofs.Drafted.{none_by, is_held, region_refused, region_passed, region_given}
use Rattle.wtf_changes.proofs.draft.set_region.Goals as goal

pub returns-then-is_some : goal.returns-then-is_some
returns-then-is_some c =
    let none = sym c.remove.ensures.value ∙ none_by c.remove.result c.in_default.not-Some in
    region_refused c.args.files.now.entries (region_row c.args.change.now) none (is_held c.args.change.now.value ∙ sym c.is_some.ensures ∙ c.if-is_some.true)

pub returns-in_default : goal.returns-in_default
returns-in_default c =
    let none = sym c.remove.ensures.value ∙ none_by c.remove.result c.in_default.not-Some in
    let same : c.remove.new.self.entries ≡ c.args.files.now.entries = subst
    (λ o. IfNone o (c.remove.new.self.entries ≡ c.args.files.now.entries)) (none_by c.remove.result c.in_default.not-Some) c.remove.ensures.unchanged in
    region_passed c.args.files.now.entries (region_row c.args.change.now) none (is_held c.args.change.now.value ∙ sym c.is_some.ensures ∙ c.if-is_some.false)
    ∙ ap (λ l. Some (seen file_entry l)) (sym same)

pub returns : goal.returns
returns c =
    let es = c.args.files.now.entries in
    let i = c.args.change.now.inode in
    let f = c.in-Some.file in
    let g : FileDraft = record { last = f.last; regions = c.set_value.new.regions } in
    region_given es (region_row c.args.change.now) f g (sym c.remove.ensures.value ∙ c.in-Some.is) refl c.in_ok-set_value.ensures
    ∙ ap (λ l. Some (seen file_entry l)) (sym (c.in_ok-insert.ensures.entries ∙ ap (λ l. insert_entry inode_cmp l i g) c.remove.ensures.entries))
