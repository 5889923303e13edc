use Rattle.std.proofs.Common.{length, drop, arith}
use Rattle.std.proofs.lemmas.List.{take_at}
use Rattle.std.proofs.lemmas.Result.{IfOk-weaker, IfErr-weaker}
use Rattle.wtf_healer.specs.Bases.{IsListIn, IsNoListIn, IsListRead, IsListFault}
use Rattle.wtf_healer.proofs.Reading.{read_left, damaged_left}
use Rattle.wtf_healer.proofs.base.list_in.Goals as goal

pub returns-clause-read : goal.returns-clause-read
returns-clause-read g c =
    let kind = g.S.SliceStore.kind in
    let out = c.fetch_all.new.out in
    let whole = take_at out (drop (length out) c.in-Ok.bytes.items) c.in-Ok.bytes.len
    (omega (arith, c.fetch_all.ensures.whole, c.in-Ok.ensures.zeros, c.len.ensures.value, c.in-Ok.bytes.ok)) in
    let one = rw c.deref.ensures.value at c.list_of.ensures.list in
    let two = rw whole at one in
    IfOk-weaker c.list_of.result (IsListIn kind c.fetch_all.new.dev out) (IsListRead kind c.args.dev.now c.fetch_all.new.dev c.args.slice.now)
    (λ es h. read_left g.met.S.SliceStore.laws c.fetch_all.ensures.dev c.args.slice.now out c.in-Ok-fetch_all.from.0 c.in-Ok-fetch_all.ensures.fetched
    c.fetch_all.ensures.whole es h) two

pub returns-clause-fault : goal.returns-clause-fault
returns-clause-fault g c =
    let kind = g.S.SliceStore.kind in
    let out = c.fetch_all.new.out in
    let whole = take_at out (drop (length out) c.in-Ok.bytes.items) c.in-Ok.bytes.len
    (omega (arith, c.fetch_all.ensures.whole, c.in-Ok.ensures.zeros, c.len.ensures.value, c.in-Ok.bytes.ok)) in
    let one = rw c.deref.ensures.value at c.list_of.ensures.fault in
    let two = rw whole at one in
    IfErr-weaker c.list_of.result (IsNoListIn kind c.fetch_all.new.dev out c.in-Ok-fetch_all.from.0)
    (IsListFault kind c.args.dev.now c.fetch_all.new.dev c.args.slice.now)
    (λ why h. damaged_left g.met.S.SliceStore.laws c.args.dev.now c.fetch_all.new.dev c.args.slice.now out c.in-Ok-fetch_all.from.0
    c.in-Ok-fetch_all.ensures.fetched
    c.fetch_all.ensures.whole why h) two
