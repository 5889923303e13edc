use Rattle.wtf_region.proofs.ListReads.{slice_later}
use Rattle.wtf_gc.proofs.Listed.{read_one}
use Rattle.wtf_gc.proofs.listing.add_base_list.Goals as goal

pub returns-in-Ok-clause-read : goal.returns-in-Ok-clause-read
returns-in-Ok-clause-read g c =
    read_one g.met.S.SliceStore.laws c.args.dev.now c.base_list.new.dev c.args.slice.now c.in_ok-list.list
    c.args.found.now c.add_list.new.found c.in_ok-list.ensures.read
    (slice_later g.met.S.SliceStore.laws c.requires.sound c.base_list.ensures.dev c.args.slice.now c.requires.inside) c.in-Ok.ensures
