use Rattle.std.proofs.Common.{Option, refl, sym, ap, ◌∙◌, subst, inl}
use Rattle.std.proofs.lemmas.Result.{IfOk-weaker, IfErr-weaker}
use Rattle.wtf_values.specs.declared.region.RegionValue.{RegionValue}
use Rattle.wtf_meta.specs.Bytes.{MaybeBytes, any_slice}
use Rattle.wtf_meta.specs.FileEdits.{region_of}
use Rattle.wtf_meta.specs.Maps.{seen}
use Rattle.wtf_region.specs.Devs.{inside_of}
use Rattle.wtf_region.specs.Own.{IsOwnPlan}
use Rattle.wtf_region.specs.Reads.{IsPartRead, LeavesRegion}
use Rattle.wtf_region.proofs.ListReads.{leaves_memory, list_alone, part_read}
use Rattle.wtf_region.proofs.reading.made_pieces.Goals as goal

pub value_pieces-requires-clause-inside : goal.value_pieces-requires-clause-inside
value_pieces-requires-clause-inside g c =
    subst (λ (o : Option RegionValue). MaybeBytes (inside_of g.S.SliceStore.kind c.args.dev.now) any_slice o)
    (sym (c.region_in.ensures ∙ ap region_of (c.as_ref.ensures.value ∙ c.in-Ok.ensures.value))) c.requires.inside

pub returns-clause-read : goal.returns-clause-read
returns-clause-read g c =
    IfOk-weaker c.value_pieces.result _ _
    (λ v read.
    subst (λ (o : Option RegionValue). IsPartRead g.S.SliceStore.kind c.args.dev.now c.value_pieces.new.dev o c.args.part.off c.args.part.len v.items)
    (c.region_in.ensures ∙ ap region_of (c.as_ref.ensures.value ∙ c.in-Ok.ensures.value)) read) c.value_pieces.ensures.read

pub returns-clause-fault : goal.returns-clause-fault
returns-clause-fault g c =
    IfErr-weaker c.value_pieces.result _ _
    (λ why is. subst (λ (o : Option RegionValue). LeavesRegion g.S.SliceStore.kind c.args.dev.now c.value_pieces.new.dev o why)
    (c.region_in.ensures ∙ ap region_of (c.as_ref.ensures.value ∙ c.in-Ok.ensures.value)) is) c.value_pieces.ensures.fault

pub returns-in-Err-clause-fault : goal.returns-in-Err-clause-fault
returns-in-Err-clause-fault g c = leaves_memory g.S.SliceStore.kind c.args.dev.now c.args.dev.now _ _ refl (inl refl)

pub returns-in-Ok-Some-clause-read : goal.returns-in-Ok-Some-clause-read
returns-in-Ok-Some-clause-read g c =
    let laws = g.met.S.SliceStore.laws in
    let dev = c.args.dev.now in
    let p = c.args.part in
    let ps = c.in-Ok-Some.pieces.items in
    let plan : IsOwnPlan (region_of (seen c.args.kv.now c.args.at.now c.args.key.now)) p.off p.len ps = rw c.in-Ok-Some.field-0-is at c.in-Ok-Some.ensures in
    subst (λ (o : Option RegionValue). IsPartRead g.S.SliceStore.kind dev dev o p.off p.len ps) (sym plan.is)
    (part_read laws dev dev plan.region plan.region.list p.off p.len ps (list_alone laws dev plan.region plan.none) plan.plans)
