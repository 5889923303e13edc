use Rattle.std.proofs.Common.{rules, ◌≡◌, None, Some, refl, inl, inr}
use Rattle.std.proofs.lemmas.Result.{IfOk-weaker, IfErr-weaker}
use Rattle.wtf_meta.specs.Lists.{base_facts}
use Rattle.wtf_region.proofs.BaseLaws.{base_wants}
use Rattle.wtf_region.proofs.ListReads.{list_alone, part_read, part_hole, leaves_memory}
use Rattle.wtf_region.proofs.Spans.{goes_nowhere}
use Rattle.wtf_region.proofs.reading.value_pieces.Goals as goal

pub returns-in-None-clause-read : goal.returns-in-None-clause-read
returns-in-None-clause-read g c = rw c.in-None.is
    (IfOk-weaker c.hole.result _ _ (λ v p. part_hole g.met.S.SliceStore.laws c.args.dev.now c.args.off c.args.len v.items p)
    c.hole.ensures.plans)

pub returns-in-None-clause-dev : goal.returns-in-None-clause-dev
returns-in-None-clause-dev g c = goes_nowhere g.met.S.SliceStore.laws c.args.dev.now c.requires.sound

pub returns-then-is_none-clause-read : goal.returns-then-is_none-clause-read
returns-then-is_none-clause-read g c =
    let dev = c.args.dev.now in
    let region = c.in-Some.v.now in
    let none : region.base ≡ None = search rules in
    rw c.in-Some.is
    (IfOk-weaker c.plan_of.result _ _
    (λ v p. part_read g.met.S.SliceStore.laws dev dev region region.list c.args.off c.args.len v.items
    (list_alone g.met.S.SliceStore.laws dev region none) p)
    c.plan_of.ensures.plans)

pub returns-in-None-clause-fault : goal.returns-in-None-clause-fault
returns-in-None-clause-fault g c =
    IfErr-weaker c.hole.result _ _ (λ why is. leaves_memory g.S.SliceStore.kind c.args.dev.now c.args.dev.now _ why is (inl refl)) c.hole.ensures.fault

pub returns-then-is_none-clause-fault : goal.returns-then-is_none-clause-fault
returns-then-is_none-clause-fault g c =
    IfErr-weaker c.plan_of.result _ _ (λ why is. leaves_memory g.S.SliceStore.kind c.args.dev.now c.args.dev.now _ why is (inl refl)) c.plan_of.ensures.fault

pub returns-in-Err-clause-fault : goal.returns-in-Err-clause-fault
returns-in-Err-clause-fault g c = rw c.in-Some.is (record { cause = c.in-Err.ensures.fault; left = c.in-Err.ensures.left })

pub returns-clause-fault : goal.returns-clause-fault
returns-clause-fault g c =
    let read = c.in-Ok.ensures.read in
    let base = c.in-Some.v.now.base in
    rw c.in-Some.is
    (IfErr-weaker c.plan_of-2.result _ _ (λ why is. leaves_memory g.S.SliceStore.kind c.args.dev.now c.region_list.new.dev (Some c.in-Some.v.now) why is
    (inr (base_facts base read.under, base_wants base read.under, read.recalls))) c.plan_of-2.ensures.fault)

pub returns-then-is_none-clause-dev : goal.returns-then-is_none-clause-dev
returns-then-is_none-clause-dev g c = goes_nowhere g.met.S.SliceStore.laws c.args.dev.now c.requires.sound

pub region_list-requires-clause-inside : goal.region_list-requires-clause-inside
region_list-requires-clause-inside g c = (rw c.in-Some.is at c.requires.inside).base

pub returns-clause-read : goal.returns-clause-read
returns-clause-read g c = rw c.in-Some.is
    (IfOk-weaker c.plan_of-2.result _ _
    (λ v p. part_read g.met.S.SliceStore.laws c.args.dev.now c.region_list.new.dev c.in-Some.v.now c.in-Ok.list c.args.off c.args.len v.items
    c.in-Ok.ensures.read p) c.plan_of-2.ensures.plans)
