use Rattle.std.proofs.lemmas.Result.{IfOk-weaker, IfErr-weaker}
use Rattle.wtf_replica.specs.Faults.{IsWriteFault}
use Rattle.wtf_region.specs.Devs.{between}
use Rattle.wtf_region.proofs.Spans.{goes_on}
use Rattle.wtf_healer.specs.Restored.{place_for, IsStoredFor, IsAnewFault}
use Rattle.wtf_healer.proofs.Faulting.{anew_read, anew_write}
use Rattle.wtf_healer.proofs.Restoring.{Made, made_of, stored_for}
use Rattle.wtf_healer.proofs.entries.stored.Goals as goal

pub returns-in-Err-clause-fault : goal.returns-in-Err-clause-fault
returns-in-Err-clause-fault g c = anew_read g.met.S.SliceStore.laws c.args.dev.now c.bytes_of.new.dev c.args.e c.in-Err.why c.in-Err.ensures.fault

pub returns-clause-fault : goal.returns-clause-fault
returns-clause-fault g c =
    IfErr-weaker c.store_bytes-made.result (IsWriteFault g.S.SliceStore.kind
    (between c.bytes_of.new.dev c.store_bytes-made.new.dev) c.bytes_of.new.dev.settings)
    (IsAnewFault g.S.SliceStore.kind c.args.dev.now c.store_bytes-made.new.dev c.args.e)
    (λ why h. anew_write g.met.S.SliceStore.laws c.args.dev.now c.bytes_of.new.dev c.store_bytes-made.new.dev c.bytes_of.ensures.dev c.args.e why h)
    c.store_bytes-made.ensures.fault

pub returns-clause-dev : goal.returns-clause-dev
returns-clause-dev g c = goes_on g.met.S.SliceStore.laws c.bytes_of.ensures.dev c.store_bytes-made.ensures.dev

pub returns-clause-stored : goal.returns-clause-stored
returns-clause-stored g c =
    let kind = g.S.SliceStore.kind in
    let old = c.args.dev.now in
    let mid = c.bytes_of.new.dev in
    let new = c.store_bytes-made.new.dev in
    let v = c.in-Ok.bytes.items in
    let place = place_for mid c.args.key c.args.e in
    IfOk-weaker c.store_bytes-made.result (Made kind mid new place v) (IsStoredFor kind old new c.args.key c.args.e)
    (λ s h. stored_for g.met.S.SliceStore.laws old mid new c.bytes_of.ensures.dev c.bytes_of.ensures.reads c.store_bytes-made.ensures.dev c.args.key c.args.e
    v c.in-Ok.ensures.live s h.stored h.inside h.known)
    (made_of kind mid new place v c.store_bytes-made.result (rw c.as_slice.ensures.value at c.store_bytes-made.ensures.stored)
    c.store_bytes-made.ensures.inside c.store_bytes-made.ensures.known)
