use Rattle.std.proofs.Common.{Option, refl, sym, subst, inl}
use Rattle.std.proofs.lemmas.Result.{IfOk-weaker, IfErr-weaker}
use Rattle.wtf_values.specs.declared.region.Spill.{Spill}
use Rattle.wtf_meta.specs.Bytes.{BaseBytes, any_slice}
use Rattle.wtf_region.specs.Bases.{base_slices}
use Rattle.wtf_region.specs.Cached.{RemembersOnly}
use Rattle.wtf_region.specs.Devs.{remembered, inside_of}
use Rattle.wtf_region.specs.Reads.{IsOfBase, IsListRead, LeavesLists}
use Rattle.wtf_region.proofs.Spans.{goes_nowhere}
use Rattle.wtf_region.proofs.Remembering.{remembers_nothing}
use Rattle.wtf_region.proofs.ListReads.{list_alone, list_over, leaves_lists, base_recalled}
use Rattle.wtf_region.proofs.list.region_list.Goals as goal

pub returns-in-Ok-clause-read : goal.returns-in-Ok-clause-read
returns-in-Ok-clause-read g c = rw c.in-Ok.ensures (list_alone g.met.S.SliceStore.laws c.args.dev.now c.args.value.now c.in_default.is)

pub returns-in-Ok-clause-dev : goal.returns-in-Ok-clause-dev
returns-in-Ok-clause-dev g c = goes_nowhere g.met.S.SliceStore.laws c.args.dev.now c.requires.sound

pub returns-in-Err-clause-dev : goal.returns-in-Err-clause-dev
returns-in-Err-clause-dev g c = goes_nowhere g.met.S.SliceStore.laws c.args.dev.now c.requires.sound

pub base_list-requires-clause-inside : goal.base_list-requires-clause-inside
base_list-requires-clause-inside g c = (subst (BaseBytes (inside_of g.S.SliceStore.kind c.args.dev.now) any_slice) c.in-Some.is c.requires.inside).0

pub returns-clause-read : goal.returns-clause-read
returns-clause-read g c =
    IfOk-weaker c.list_over.result _ (IsListRead g.S.SliceStore.kind c.args.dev.now c.base_list.new.dev c.args.value.now)
    (λ list is. subst (IsListRead g.S.SliceStore.kind c.args.dev.now c.base_list.new.dev c.args.value.now) (sym is)
    (list_over g.met.S.SliceStore.laws c.args.dev.now c.base_list.new.dev c.args.value.now c.in-Some.base c.in-Ok-base_list.under c.in-Some.is
    c.in-Ok-base_list.ensures.read))
    c.list_over.ensures.list

pub returns-in-Ok-clause-only : goal.returns-in-Ok-clause-only
returns-in-Ok-clause-only g c = remembers_nothing (IsOfBase c.args.value.now.base) (remembered c.args.dev.now)

pub returns-in-Err-clause-only : goal.returns-in-Err-clause-only
returns-in-Err-clause-only g c = remembers_nothing (IsOfBase c.args.value.now.base) (remembered c.args.dev.now)

pub returns-in-Err-base_list-clause-only : goal.returns-in-Err-base_list-clause-only
returns-in-Err-base_list-clause-only g c =
    subst (λ (b : Option Spill). RemembersOnly (IsOfBase b) (remembered c.args.dev.now) (remembered c.base_list.new.dev)) (sym c.in-Some.is)
    c.base_list.ensures.only

pub returns-clause-only : goal.returns-clause-only
returns-clause-only g c =
    subst (λ (b : Option Spill). RemembersOnly (IsOfBase b) (remembered c.args.dev.now) (remembered c.base_list.new.dev)) (sym c.in-Some.is)
    c.base_list.ensures.only

pub returns-in-Err-clause-left : goal.returns-in-Err-clause-left
returns-in-Err-clause-left g c = inl refl

pub returns-in-Err-base_list-clause-left : goal.returns-in-Err-base_list-clause-left
returns-in-Err-base_list-clause-left g c =
    leaves_lists g.S.SliceStore.kind (base_slices c.args.value.now.base) c.args.dev.now c.base_list.new.dev c.in-Err-base_list.why
    c.in-Err-base_list.ensures.err

pub returns-clause-left : goal.returns-clause-left
returns-clause-left g c =
    let wants = base_slices c.args.value.now.base in
    IfErr-weaker c.list_over.result _ (LeavesLists g.S.SliceStore.kind wants c.args.dev.now c.base_list.new.dev)
    (λ why is. subst (LeavesLists g.S.SliceStore.kind wants c.args.dev.now c.base_list.new.dev) (sym is)
    (base_recalled c.args.dev.now c.base_list.new.dev c.args.value.now.base c.in-Some.base c.in-Ok-base_list.under c.in-Some.is
    c.in-Ok-base_list.ensures.read)) c.list_over.ensures.fault
