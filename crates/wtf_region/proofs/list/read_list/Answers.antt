use Rattle.std.proofs.Common.{length, drop, sym, ◌∙◌, arith}
use Rattle.std.proofs.lemmas.List.{take_at}
use Rattle.wtf_region.proofs.Spans.{goes_nowhere}
use Rattle.wtf_region.proofs.ListReads.{read_true, list_fetched, read_fault, damaged_none, damaged_outside}
use Rattle.wtf_region.proofs.list.read_list.Goals as goal

pub returns-in-Err-clause-dev : goal.returns-in-Err-clause-dev
returns-in-Err-clause-dev g c = goes_nowhere g.met.S.SliceStore.laws c.args.dev.now c.requires.sound

pub returns-in-Err-fetch_all-clause-fault : goal.returns-in-Err-fetch_all-clause-fault
returns-in-Err-fetch_all-clause-fault g c =
    read_fault g.S.SliceStore.kind c.args.dev.now c.fetch_all.new.dev c.args.slice.now c.requires.uncached c.in-Err-fetch_all.why
    c.in-Err-fetch_all.ensures.fault

pub returns-in-Err-NotAList-clause-fault : goal.returns-in-Err-NotAList-clause-fault
returns-in-Err-NotAList-clause-fault g c =
    let whole = take_at c.fetch_all.new.out (drop (length c.fetch_all.new.out) c.in-Ok.out.items) c.in-Ok.out.len
    (omega (arith, c.fetch_all.ensures.whole, c.in-Ok.ensures.zeros, c.len.ensures.value, c.in-Ok.out.ok)) in
    let cause = rw c.in-Err-NotAList.field-0-is at c.in-Err-NotAList.ensures.cause in
    let is = rw c.deref.ensures.value at cause in
    damaged_none g.met.S.SliceStore.laws c.fetch_all.ensures.dev c.args.slice.now c.fetch_all.new.out c.in-Ok-fetch_all.from.0 c.requires.uncached
    c.fetch_all.ensures.whole
    c.in-Ok-fetch_all.ensures.fetched (rw whole at is)

pub list_lies_inside-requires : goal.list_lies_inside-requires
list_lies_inside-requires g c = c.fetch_all.ensures.dev.sound.shelf

pub returns-then-not-list_lies_inside-clause-fault : goal.returns-then-not-list_lies_inside-clause-fault
returns-then-not-list_lies_inside-clause-fault g c =
    let whole = take_at c.fetch_all.new.out (drop (length c.fetch_all.new.out) c.in-Ok.out.items) c.in-Ok.out.len
    (omega (arith, c.fetch_all.ensures.whole, c.in-Ok.ensures.zeros, c.len.ensures.value, c.in-Ok.out.ok)) in
    let is = rw c.deref.ensures.value at c.in-Ok-decode.ensures.list in
    damaged_outside g.met.S.SliceStore.laws c.fetch_all.ensures.dev c.args.slice.now c.fetch_all.new.out c.in-Ok-fetch_all.from.0 c.requires.uncached
    c.fetch_all.ensures.whole
    c.in-Ok-fetch_all.ensures.fetched c.in-Ok-decode.list (rw whole at is) (sym c.list_lies_inside.ensures ∙ c.if-not-list_lies_inside.true)

pub returns-clause-read : goal.returns-clause-read
returns-clause-read g c =
    let whole = take_at c.fetch_all.new.out (drop (length c.fetch_all.new.out) c.in-Ok.out.items) c.in-Ok.out.len
    (omega (arith, c.fetch_all.ensures.whole, c.in-Ok.ensures.zeros, c.len.ensures.value, c.in-Ok.out.ok)) in
    let is = rw c.deref.ensures.value at c.in-Ok-decode.ensures.list in
    read_true g.met.S.SliceStore.laws c.requires.sound c.fetch_all.ensures.dev c.args.slice.now c.requires.inside c.fetch_all.new.out c.in-Ok-fetch_all.from.0
    c.in-Ok-fetch_all.ensures.fetched
    c.fetch_all.ensures.whole c.in-Ok-decode.list (rw whole at is) (sym c.list_lies_inside.ensures ∙ c.if-not-list_lies_inside.false)

pub returns-clause-fetched : goal.returns-clause-fetched
returns-clause-fetched g c =
    let whole = take_at c.fetch_all.new.out (drop (length c.fetch_all.new.out) c.in-Ok.out.items) c.in-Ok.out.len
    (omega (arith, c.fetch_all.ensures.whole, c.in-Ok.ensures.zeros, c.len.ensures.value, c.in-Ok.out.ok)) in
    let is = rw c.deref.ensures.value at c.in-Ok-decode.ensures.list in
    list_fetched g.met.S.SliceStore.laws c.fetch_all.ensures.dev c.args.slice.now c.fetch_all.new.out c.in-Ok-fetch_all.from.0 c.requires.uncached
    c.fetch_all.ensures.whole
    c.in-Ok-fetch_all.ensures.fetched c.in-Ok-decode.list (rw whole at is)
