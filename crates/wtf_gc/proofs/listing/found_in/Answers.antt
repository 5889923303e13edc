use Rattle.std.proofs.Common.{List, map, subst, sym}
use Rattle.std.specs.List.{All}
use Rattle.wtf_meta.specs.Bytes.{SliceBytes}
use Rattle.wtf_region.specs.Devs.{inside_of}
use Rattle.wtf_gc.specs.declared.gather.Base.{Base}
use Rattle.wtf_gc.specs.Reading.{ListsRead, IsBasesFault}
use Rattle.wtf_gc.proofs.Found.{bases_inside, parts_fault, parts_read}
use Rattle.wtf_gc.proofs.listing.found_in.Goals as goal

pub add_lists-requires-clause-inside : goal.add_lists-requires-clause-inside
add_lists-requires-clause-inside g c =
    subst (λ l. All (λ (b : Base). SliceBytes (inside_of g.S.SliceStore.kind c.args.dev.now) b.slice) l) (sym c.as_slice.ensures.value)
    (bases_inside c.args.kv.now c.args.parts c.in-Ok.all.found c.in-Ok.all.bases.items c.in-Ok.ensures
    (inside_of g.S.SliceStore.kind c.args.dev.now) c.requires.inside
    c.sort_by_key.new.self.items c.sort_by_key.ensures.permutation)

pub returns-in-Ok-add_lists-clause-read : goal.returns-in-Ok-add_lists-clause-read
returns-in-Ok-add_lists-clause-read g c =
    parts_read c.args.kv.now c.args.parts c.in-Ok.all.found c.in-Ok.all.bases.items c.in-Ok.ensures g.S.SliceStore.kind c.args.dev.now c.add_lists.new.dev
    c.sort_by_key.new.self.items c.sort_by_key.ensures.permutation c.add_lists.new.found
    (subst (λ (l : List Base). ListsRead g.S.SliceStore.kind c.args.dev.now c.add_lists.new.dev
    (map (λ (b : Base). b.slice) l) c.in-Ok.all.found c.add_lists.new.found) c.as_slice.ensures.value
    c.in-Ok-add_lists.ensures.read)

pub returns-in-Err-add_lists-clause-fault : goal.returns-in-Err-add_lists-clause-fault
returns-in-Err-add_lists-clause-fault g c =
    parts_fault c.args.kv.now c.args.parts c.in-Ok.all.found c.in-Ok.all.bases.items c.in-Ok.ensures g.S.SliceStore.kind c.args.dev.now c.add_lists.new.dev
    c.sort_by_key.new.self.items c.sort_by_key.ensures.permutation c.in-Err-add_lists.why
    (subst (λ (l : List Base). IsBasesFault g.S.SliceStore.kind c.args.dev.now c.add_lists.new.dev l c.in-Err-add_lists.why)
    c.as_slice.ensures.value c.in-Err-add_lists.ensures.fault)
