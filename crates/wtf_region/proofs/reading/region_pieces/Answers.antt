use Rattle.std.proofs.Common.{◌≡◌, [], ◌∷◌, refl, sym, subst, inl}
use Rattle.std.proofs.lemmas.Result.{IfOk-weaker, IfErr-weaker}
use Rattle.wtf_meta.specs.Bytes.{MaybeBytes, any_slice}
use Rattle.wtf_meta.specs.Maps.{Map, seen}
use Rattle.wtf_meta.specs.FileEdits.{file_of}
use Rattle.wtf_meta.specs.Appends.{OfRegion}
use Rattle.wtf_region.specs.Devs.{inside_of}
use Rattle.wtf_region.specs.Reads.{IsPartRead, LeavesRegion}
use Rattle.wtf_region.proofs.Recording.{still_seen}
use Rattle.wtf_region.proofs.ListReads.{leaves_memory}
use Rattle.wtf_region.proofs.reading.region_pieces.Goals as goal

pub seen_pieces-requires-clause-inside : goal.seen_pieces-requires-clause-inside
seen_pieces-requires-clause-inside g c =
    let i = c.args.inode in
    let kv = c.args.kv.now in
    let r = c.args.part.region in
    let old = c.args.at.now in
    let new = c.record_region.new.at in
    let same : seen kv new ≡ seen kv old = still_seen kv i (OfRegion r ∷ []) old new c.in-Ok.ensures.recorded in
    subst (λ (w : Map). MaybeBytes (inside_of g.S.SliceStore.kind c.args.dev.now) any_slice ((file_of i w).region r)) (sym same) (c.requires.inside r)

pub returns-clause-read : goal.returns-clause-read
returns-clause-read g c =
    let i = c.args.inode in
    let kv = c.args.kv.now in
    let p = c.args.part in
    let old = c.args.at.now in
    let new = c.record_region.new.at in
    let same : seen kv new ≡ seen kv old = still_seen kv i (OfRegion p.region ∷ []) old new c.in-Ok.ensures.recorded in
    IfOk-weaker c.seen_pieces.result _ _
    (λ v read.
    subst (λ (w : Map). IsPartRead g.S.SliceStore.kind c.args.dev.now c.seen_pieces.new.dev ((file_of i w).region p.region) p.off p.len v.items) same read)
    c.seen_pieces.ensures.read

pub returns-clause-fault : goal.returns-clause-fault
returns-clause-fault g c =
    let i = c.args.inode in
    let kv = c.args.kv.now in
    let r = c.args.part.region in
    let old = c.args.at.now in
    let new = c.record_region.new.at in
    let same : seen kv new ≡ seen kv old = still_seen kv i (OfRegion r ∷ []) old new c.in-Ok.ensures.recorded in
    IfErr-weaker c.seen_pieces.result _ _
    (λ why is. subst (λ (w : Map). LeavesRegion g.S.SliceStore.kind c.args.dev.now c.seen_pieces.new.dev ((file_of i w).region r) why) same is)
    c.seen_pieces.ensures.fault

pub returns-in-Err-clause-fault : goal.returns-in-Err-clause-fault
returns-in-Err-clause-fault g c = leaves_memory g.S.SliceStore.kind c.args.dev.now c.args.dev.now _ _ refl (inl refl)
