use Rattle.std.proofs.Common.{Option, sym, ap, ◌∙◌, subst}
use Rattle.std.proofs.lemmas.Result.{IfOk-weaker, IfErr-weaker}
use Rattle.wtf_values.specs.declared.region.RegionValue.{RegionValue}
use Rattle.wtf_meta.specs.Bytes.{MaybeBytes, any_slice}
use Rattle.wtf_meta.specs.FileEdits.{region_of}
use Rattle.wtf_region.specs.Devs.{inside_of}
use Rattle.wtf_region.specs.Reads.{IsPartRead, LeavesRegion}
use Rattle.wtf_region.proofs.reading.seen_pieces.Goals as goal

pub value_pieces-requires-clause-inside : goal.value_pieces-requires-clause-inside
value_pieces-requires-clause-inside g c =
    subst (λ (o : Option RegionValue). MaybeBytes (inside_of g.S.SliceStore.kind c.args.dev.now) any_slice o)
    (sym (c.region_in.ensures ∙ ap region_of c.in-Some.ensures.value)) c.requires.inside

pub returns-in-Some-clause-read : goal.returns-in-Some-clause-read
returns-in-Some-clause-read g c =
    IfOk-weaker c.value_pieces.result _ _
    (λ v read.
    subst (λ (o : Option RegionValue). IsPartRead g.S.SliceStore.kind c.args.dev.now c.value_pieces.new.dev o c.args.part.off c.args.part.len v.items)
    (c.region_in.ensures ∙ ap region_of c.in-Some.ensures.value) read) c.value_pieces.ensures.read

pub returns-in-Some-clause-fault : goal.returns-in-Some-clause-fault
returns-in-Some-clause-fault g c =
    IfErr-weaker c.value_pieces.result _ _
    (λ why is. subst (λ (o : Option RegionValue). LeavesRegion g.S.SliceStore.kind c.args.dev.now c.value_pieces.new.dev o why)
    (c.region_in.ensures ∙ ap region_of c.in-Some.ensures.value) is) c.value_pieces.ensures.fault
