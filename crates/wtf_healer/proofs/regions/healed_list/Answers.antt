use Rattle.std.proofs.Common.{sym, ◌∙◌}
use Rattle.wtf_region.proofs.Spans.{goes_on}
use Rattle.wtf_healer.specs.Bases.{inside_left}
use Rattle.wtf_healer.proofs.Healing.{base_inside, few_entries, healed_of, restore_fault, grew_since, read_grew}
use Rattle.wtf_healer.proofs.Restoring.{entries_later}
use Rattle.wtf_healer.proofs.regions.healed_list.Goals as goal

pub restore-requires-clause-inside : goal.restore-requires-clause-inside
restore-requires-clause-inside g c =
    let kind = g.S.SliceStore.kind in
    let old = c.args.dev.now in
    let mid = c.base_list.new.dev in
    let v = c.args.value.now in
    c.in-Ok-short_list.ensures.short.named (inside_left kind mid) (base_inside kind old mid v.base c.in-Ok.under c.in-Ok.ensures.read)
    (entries_later g.met.S.SliceStore.laws old mid c.requires.sound c.base_list.ensures.dev v.list c.requires.inside.entries)

pub restore-requires-clause-few : goal.restore-requires-clause-few
restore-requires-clause-few g c =
    few_entries c.args.value.now c.in-Ok.under c.in-Ok-short_list.list c.args.dev.now.settings c.requires.size c.in-Ok-short_list.ensures.short

pub returns-in-Ok-restore-clause-healed : goal.returns-in-Ok-restore-clause-healed
returns-in-Ok-restore-clause-healed g c =
    healed_of g.met.S.SliceStore.laws c.args.dev.now c.base_list.new.dev c.restore.new.dev c.base_list.ensures.dev c.restore.ensures.dev
    c.args.key c.args.value.now c.in-Ok.under c.in-Ok-short_list.list c.in-Ok.ensures.read (sym c.is_to_heal.ensures ∙ c.if-not-is_to_heal.false)
    c.in-Ok-short_list.ensures.short c.in-Ok-restore.made c.in-Ok-restore.ensures.restored

pub returns-in-Ok-restore-clause-grew : goal.returns-in-Ok-restore-clause-grew
returns-in-Ok-restore-clause-grew g c =
    grew_since g.met.S.SliceStore.laws c.args.dev.now c.base_list.new.dev c.restore.new.dev c.base_list.ensures.dev c.base_list.ensures.reads
    c.in-Ok-restore.made.bytes c.in-Ok-restore.ensures.grew

pub returns-in-Ok-restore-clause-dev : goal.returns-in-Ok-restore-clause-dev
returns-in-Ok-restore-clause-dev g c = goes_on g.met.S.SliceStore.laws c.base_list.ensures.dev c.restore.ensures.dev

pub returns-clause-fault : goal.returns-clause-fault
returns-clause-fault g c =
    restore_fault g.met.S.SliceStore.laws c.args.dev.now c.base_list.new.dev c.restore.new.dev c.base_list.ensures.dev c.restore.ensures.dev c.args.value.now
    c.in-Ok.under c.in-Ok-short_list.list c.in-Ok.ensures.read (sym c.is_to_heal.ensures ∙ c.if-not-is_to_heal.false)
    c.in-Ok-short_list.ensures.short c.in-Err-restore.why c.in-Err-restore.ensures.fault

pub returns-clause-dev : goal.returns-clause-dev
returns-clause-dev g c = goes_on g.met.S.SliceStore.laws c.base_list.ensures.dev c.restore.ensures.dev

pub returns-then-not-is_to_heal-clause-grew : goal.returns-then-not-is_to_heal-clause-grew
returns-then-not-is_to_heal-clause-grew g c =
    read_grew g.met.S.SliceStore.laws c.args.dev.now c.base_list.new.dev c.base_list.ensures.dev c.base_list.ensures.reads
