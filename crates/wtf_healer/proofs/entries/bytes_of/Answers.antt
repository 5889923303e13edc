use Rattle.std.proofs.Common.{[], refl, rules}
use Rattle.wtf_replica.specs.Bytes.{byte_at}
use Rattle.wtf_region.specs.Devs.{stores, is_down_in, between}
use Rattle.wtf_region.specs.Showing.{meaning_up}
use Rattle.wtf_healer.proofs.Faulting.{piece_readable, piece_fault, piece_gives}
use Rattle.wtf_healer.proofs.entries.bytes_of.Goals as goal

pub show-requires-clause-readable : goal.show-requires-clause-readable
show-requires-clause-readable g c =
    piece_readable g.S.SliceStore.kind c.args.dev.now c.requires.sound c.args.e c.of.result c.of.ensures.part c.requires.inside

pub returns-in-Ok-clause-live : goal.returns-in-Ok-clause-live
returns-in-Ok-clause-live g c =
    piece_gives (meaning_up (is_down_in c.args.dev.now)
    (byte_at g.S.SliceStore.kind (stores c.args.dev.now))) c.args.e.len c.args.e.len c.of.result c.args.e.part
    [] c.show.new.out.items c.of.ensures.part c.of.ensures.len refl (rw c.new-bytes.ensures.items at c.in-Ok.ensures.live)

pub returns-in-Err-clause-fault : goal.returns-in-Err-clause-fault
returns-in-Err-clause-fault g c =
    piece_fault g.S.SliceStore.kind (between c.args.dev.now c.show.new.dev) c.args.e c.of.result _ c.of.ensures.part
    (search rules) c.in-Err.why c.in-Err.ensures.fault
