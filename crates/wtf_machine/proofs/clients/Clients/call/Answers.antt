use Rattle.std.proofs.Common.{IfOk, IsTrue, ◌↔◌, sym, subst}
use Rattle.std.specs.Ordering.{nat_cmp}
use Rattle.wtf_model.specs.Lawful.{MayCall}
use Rattle.wtf_model.specs.Machines.{Machine}
use Rattle.wtf_model.specs.Transaction.{Transaction}
use Rattle.wtf_machine.specs.Maps.{map_of}
use Rattle.wtf_machine.specs.Verdicts.{open_in, RunsWith}
use Rattle.wtf_machine.specs.Kept.{clients_in, Decides, called_in}
use Rattle.wtf_machine.proofs.ClientLaws.{found_is, got, found_at, none_found, becomes, stays, decided_call, live_replayed, room_left, on_error}
use Rattle.wtf_machine.proofs.SeenLaws.{called_next, called_stays}
use Rattle.wtf_machine.proofs.clients.Clients.call.Goals as goal

pub returns-in_default-clause-decides : goal.returns-in_default-clause-decides
returns-in_default-clause-decides c =
    λ t there. absurd (none_found c.args.self.now.changed.items c.args.self.now.items.entries c.args.c t c.in_default.ensures.value there)

pub call-requires-clause-live : goal.call-requires-clause-live
call-requires-clause-live c =
    let b = c.in-Some.t.now in
    live_replayed b (c.requires (open_in c.args.self.now.changed.items b)
    (found_at c.args.self.now.changed.items c.args.self.now.items.entries c.args.c b c.in-Some.ensures.value)).0

pub call-requires-clause-room : goal.call-requires-clause-room
call-requires-clause-room c =
    let b = c.in-Some.t.now in
    room_left b (c.requires (open_in c.args.self.now.changed.items b)
    (found_at c.args.self.now.changed.items c.args.self.now.items.entries c.args.c b c.in-Some.ensures.value)).1

pub returns-clause-decides : goal.returns-clause-decides
returns-clause-decides c = λ t there.
    let b = c.in-Some.t.now in
    let w = c.call.new.self in
    let k = c.args.self.now in
    let changed = k.changed.items in
    let held = c.get_mut.follows.holds w in
    let new = map_of nat_cmp (open_in changed) (c.get_mut.follows.lender w).entries in
    let is = becomes changed k.items.entries c.args.c _ w (held.3 (got _ _ c.in-Some.ensures.value)).0 in
    let lawful =
    subst (λ cap. IfOk c.call.result (λ yes. (m : Machine) → RunsWith cap c.args.servers m
    → (IsTrue yes ↔ MayCall m (open_in changed b) c.args.op.now c.args.answer.now))) (k.caps c.args.c b (sym c.in-Some.ensures.value)) c.call.ensures.lawful in
    subst (λ (x : Transaction). IfOk c.call.result
    (λ yes. (m : Machine) → RunsWith k.cap c.args.servers m
    → Decides (MayCall m x c.args.op.now c.args.answer.now) (clients_in k) (called_in (clients_in k) c.args.c x c.args.op.now c.args.answer.now) new yes))
    (found_is changed k.items.entries c.args.c b t c.in-Some.ensures.value there)
    (decided_call c.call.result (RunsWith k.cap c.args.servers) (λ m. MayCall m (open_in changed b) c.args.op.now c.args.answer.now) (clients_in k) new c.args.c
    (open_in changed b) (open_in changed w) c.args.op.now c.args.answer.now
    (found_at changed k.items.entries c.args.c b c.in-Some.ensures.value) is lawful
    (called_next c.call.result changed w b c.args.op.now c.args.answer.now c.call.ensures.since c.call.ensures.next)
    (called_stays c.call.result changed w b c.call.ensures.since c.call.ensures.stays))

pub returns-clause-err : goal.returns-clause-err
returns-clause-err c =
    let b = c.in-Some.t.now in
    let w = c.call.new.self in
    let held = c.get_mut.follows.holds w in
    on_error c.call.result _ _
    (λ same. stays c.args.self.now.changed.items c.args.self.now.items.entries c.args.c _ b w c.in-Some.ensures.value
    (held.3 (got _ _ c.in-Some.ensures.value)).0 same c.call.ensures.since)
    c.call.ensures.err
