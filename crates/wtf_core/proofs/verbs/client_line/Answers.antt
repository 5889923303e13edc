use Rattle.wtf_core.proofs.Common.{Event, Verb, Ok, refl, ap}
use Rattle.wtf_core.proofs.Lent.{done_as, lent_done, begin_done, try_done, abort_done}
use Rattle.wtf_core.proofs.verbs.client_line.Goals as goal

pub returns-in-Begin : goal.returns-in-Begin
returns-in-Begin g c =
    let did = c.begin.ensures in
    done_as (ap (Event.Client c.args.c) c.in-Begin.is)
    (begin_done g.met.S.SliceStore.laws c.args.dev.now c.requires.dev c.args.tables.now c.begin.new.self c.requires.sound c.requires.inside c.args.c
    c.begin.result did.turn did.err)

pub returns-in-Try : goal.returns-in-Try
returns-in-Try g c =
    let did = c.attempt.ensures in
    done_as (ap (Event.Client c.args.c) c.in-Try.is) (try_done g.met.S.SliceStore.laws c.args.dev.now c.requires.dev c.args.tables.now c.attempt.new.self
    c.requires.sound c.requires.inside c.args.c c.attempt.result did.turn did.err)

pub returns-in-Step : goal.returns-in-Step
returns-in-Step g c =
    let did = c.step.ensures in
    done_as (ap (Event.Client c.args.c) c.in-Step.is) (lent_done g.S.SliceStore.kind c.args.dev.now c.step.new.dev c.args.tables.now c.step.new.self
    (Event.Client c.args.c Verb.Step) c.step.result did.turn did.serves did.told (λ goes. goes) did.err did.leaves did.dev refl)

pub returns-in-Commit : goal.returns-in-Commit
returns-in-Commit g c =
    let did = c.commit.ensures in
    done_as (ap (Event.Client c.args.c) c.in-Commit.is)
    (lent_done g.S.SliceStore.kind c.args.dev.now c.commit.new.dev c.args.tables.now c.commit.new.self
    (Event.Client c.args.c Verb.Commit) c.commit.result did.turn did.serves did.told (λ goes. goes) did.err did.leaves did.dev refl)

pub returns-in-Abort : goal.returns-in-Abort
returns-in-Abort g c =
    done_as (ap (Event.Client c.args.c) c.in-Abort.is)
    (abort_done g.met.S.SliceStore.laws c.args.dev.now c.requires.dev c.args.tables.now c.abort.new.self c.requires.sound c.requires.inside c.args.c
    (Ok c.abort.result) c.abort.ensures.turn refl)

pub returns-in-Call : goal.returns-in-Call
returns-in-Call g c =
    let did = c.call.ensures in
    done_as (ap (Event.Client c.args.c) c.in-Call.is) (lent_done g.S.SliceStore.kind c.args.dev.now c.call.new.dev c.args.tables.now c.call.new.self
    (Event.Client c.args.c (Verb.Call c.in-Call.op)) c.call.result did.turn did.serves did.told (λ goes. goes) did.err did.leaves did.dev refl)
