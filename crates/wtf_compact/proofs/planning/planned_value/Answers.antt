use Rattle.std.proofs.Common.{Some, sym, subst, ◌∙◌}
use Rattle.wtf_meta.specs.Bytes.{any_slice}
use Rattle.wtf_meta.proofs.Weaker.{maybe_stays}
use Rattle.wtf_region.specs.Cached.{RemembersOnly}
use Rattle.wtf_region.specs.Devs.{remembered, inside_of}
use Rattle.wtf_region.proofs.ListReads.{places_later}
use Rattle.wtf_region.proofs.Spans.{goes_on}
use Rattle.wtf_compact.specs.Planned.{IsOfRegion}
use Rattle.wtf_compact.proofs.Plans.{planned_short, short_inside, planned_spilled, fault_spilled}
use Rattle.wtf_compact.proofs.Sparing.{spares_read, spares_stored}
use Rattle.wtf_compact.proofs.planning.planned_value.Goals as goal

pub returns-then-not-spills-clause-planned : goal.returns-then-not-spills-clause-planned
returns-then-not-spills-clause-planned g c =
    planned_short g.S.SliceStore.kind c.args.dev.now c.short_list.new.dev c.args.target c.args.value.now c.of_list.result c.in-Ok.list c.in-Ok.ensures.list
    c.short_list.ensures.reads (sym c.spills.ensures ∙ c.if-not-spills.true) c.of_list.ensures.end c.of_list.ensures.base c.of_list.ensures.list

pub returns-then-not-spills-clause-inside : goal.returns-then-not-spills-clause-inside
returns-then-not-spills-clause-inside g c =
    short_inside g.met.S.SliceStore.laws c.requires.sound c.short_list.ensures.dev c.args.value.now c.of_list.result c.in-Ok.list c.in-Ok.ensures.list
    c.requires.inside c.of_list.ensures.base c.of_list.ensures.list

pub returns-in-Err-store_list-clause-fault : goal.returns-in-Err-store_list-clause-fault
returns-in-Err-store_list-clause-fault g c =
    fault_spilled g.S.SliceStore.kind c.args.dev.now c.short_list.new.dev c.store_list.new.dev c.args.target c.args.value.now c.in-Ok.list
    c.in-Err-store_list.why c.short_list.ensures.dev c.short_list.ensures.reads c.in-Ok.ensures.list (sym c.spills.ensures ∙ c.if-not-spills.false)
    c.store_list.ensures.grows c.store_list.ensures.lists c.in-Err-store_list.ensures.fault

pub returns-in-Err-store_list-clause-dev : goal.returns-in-Err-store_list-clause-dev
returns-in-Err-store_list-clause-dev g c = goes_on g.met.S.SliceStore.laws c.short_list.ensures.dev c.store_list.ensures.dev

pub returns-in-Ok-of_slice-clause-planned : goal.returns-in-Ok-of_slice-clause-planned
returns-in-Ok-of_slice-clause-planned g c =
    let kind = g.S.SliceStore.kind in
    let old = c.args.dev.now in
    let mid = c.short_list.new.dev in
    let v = c.args.value.now in
    planned_spilled g.met.S.SliceStore.laws c.short_list.ensures.dev c.store_list.ensures.dev v c.in-Ok.list c.in-Ok.ensures.list
    (maybe_stays (inside_of kind old) (inside_of kind mid) (places_later g.met.S.SliceStore.laws c.requires.sound c.short_list.ensures.dev) any_slice any_slice
    (λ s is. is) (Some v) c.requires.inside)
    c.args.target c.in-Ok-of_slice.planned c.in-Ok-store_list.slice c.store_list.ensures.lists
    c.short_list.ensures.reads (sym c.spills.ensures ∙ c.if-not-spills.false)
    c.in-Ok-store_list.ensures.stored c.in-Ok-store_list.ensures.told c.in-Ok-of_slice.ensures.end c.in-Ok-of_slice.ensures.base c.in-Ok-of_slice.ensures.list

pub returns-in-Ok-of_slice-clause-dev : goal.returns-in-Ok-of_slice-clause-dev
returns-in-Ok-of_slice-clause-dev g c = goes_on g.met.S.SliceStore.laws c.short_list.ensures.dev c.store_list.ensures.dev

pub returns-clause-dev : goal.returns-clause-dev
returns-clause-dev g c = goes_on g.met.S.SliceStore.laws c.short_list.ensures.dev c.store_list.ensures.dev

pub returns-in-Err-clause-spares : goal.returns-in-Err-clause-spares
returns-in-Err-clause-spares g c =
    spares_read g.S.SliceStore.kind c.args.dev.now c.short_list.new.dev c.args.target (Some c.args.value.now) c.short_list.ensures.reads

pub returns-then-not-spills-clause-spares : goal.returns-then-not-spills-clause-spares
returns-then-not-spills-clause-spares g c =
    spares_read g.S.SliceStore.kind c.args.dev.now c.short_list.new.dev c.args.target (Some c.args.value.now) c.short_list.ensures.reads

pub returns-in-Err-store_list-clause-spares : goal.returns-in-Err-store_list-clause-spares
returns-in-Err-store_list-clause-spares g c =
    spares_stored g.met.S.SliceStore.laws c.short_list.ensures.dev c.store_list.ensures.dev c.short_list.ensures.reads c.args.target (Some c.args.value.now)
    c.in-Ok.list (sym c.spills.ensures ∙ c.if-not-spills.false) c.in-Ok.ensures.list.compact c.store_list.ensures.down c.store_list.ensures.grows
    c.store_list.ensures.order c.store_list.ensures.syncs

pub returns-in-Ok-of_slice-clause-spares : goal.returns-in-Ok-of_slice-clause-spares
returns-in-Ok-of_slice-clause-spares g c =
    spares_stored g.met.S.SliceStore.laws c.short_list.ensures.dev c.store_list.ensures.dev c.short_list.ensures.reads c.args.target (Some c.args.value.now)
    c.in-Ok.list (sym c.spills.ensures ∙ c.if-not-spills.false) c.in-Ok.ensures.list.compact c.store_list.ensures.down c.store_list.ensures.grows
    c.store_list.ensures.order c.store_list.ensures.syncs

pub returns-clause-spares : goal.returns-clause-spares
returns-clause-spares g c =
    spares_stored g.met.S.SliceStore.laws c.short_list.ensures.dev c.store_list.ensures.dev c.short_list.ensures.reads c.args.target (Some c.args.value.now)
    c.in-Ok.list (sym c.spills.ensures ∙ c.if-not-spills.false) c.in-Ok.ensures.list.compact c.store_list.ensures.down c.store_list.ensures.grows
    c.store_list.ensures.order c.store_list.ensures.syncs

pub returns-in-Ok-of_slice-clause-only : goal.returns-in-Ok-of_slice-clause-only
returns-in-Ok-of_slice-clause-only g c =
    subst (RemembersOnly (IsOfRegion (Some c.args.value.now)) (remembered c.args.dev.now)) (sym c.store_list.ensures.lists) c.short_list.ensures.only
