use Rattle.wtf_clients.proofs.Common.{option_copied_mut, times_pinned, metadata_at, Answer, NoTx, Clients, TablesView, of_client, without_hand, IsAlike}
use Rattle.wtf_clients.proofs.Common.{Refuses, TryTurn, ◌∙◌, MatchOption, refl, sym, ap, subst}
use Rattle.wtf_clients.proofs.{Lives.tables_of, Lists.Writes, Lists.written, Making.at_none, Making.at_some, Making.refused_same, Making.kept_sound}
use Rattle.wtf_clients.proofs.{Making.try_goes, Making.try_ends, Soundness.try_sound}
use Rattle.wtf_clients.proofs.tables.Tables.attempt.Goals as goal
use Rattle.wtf_clients.proofs.tables.Tables.attempt.Goals.{After-attempt}

-- the tables before it, and the clients as the attempt left them
abbrev old : After-attempt → TablesView
old c = tables_of c.self.inside

abbrev left : After-attempt → Clients
left c = (c.get_mut.follows.lender c.attempt.new.self).entries

-- the transaction of the client
writes : (c : After-attempt) → Writes c.args.c (old c).clients c.in-Some.txn.now c.attempt.new.self (left c)
writes c =
    written c.args.c c.self.inside.clients (c.get_mut.follows.lender c.attempt.new.self) c.in-Some.txn.now c.attempt.new.self
    (sym c.get_mut.ensures.value ∙ ap option_copied_mut c.in-Some.is) (c.get_mut.follows.holds c.attempt.new.self)

-- what is said of the client's turn, by the fields of the tables
turn : (c : After-attempt) (new : TablesView) (a : Answer) → TryTurn (old c) new c.args.c c.in-Some.txn.now a
    → MatchOption (of_client c.args.self.now.clients c.args.c) (Refuses c.args.self.now new c.args.c NoTx a) (λ q. TryTurn c.args.self.now new c.args.c q a)
turn c new a did =
    subst (λ (t : TablesView). MatchOption (of_client t.clients c.args.c) (Refuses t new c.args.c NoTx a) (λ q. TryTurn t new c.args.c q a)) c.self.view_is
    (at_some (of_client (old c).clients c.args.c) c.in-Some.txn.now _ _ (writes c).there did)

pub attempt-requires-clause-going : goal.attempt-requires-clause-going
attempt-requires-clause-going c = (c.self.invariant.each c.args.c c.in-Some.txn.now (sym c.get_mut.ensures.value ∙ ap option_copied_mut c.in-Some.is)).going

pub attempt-requires-clause-fit : goal.attempt-requires-clause-fit
attempt-requires-clause-fit c = (c.self.invariant.each c.args.c c.in-Some.txn.now (sym c.get_mut.ensures.value ∙ ap option_copied_mut c.in-Some.is)).fit

pub invariant_of-self-in-Err : goal.invariant_of-self-in-Err
invariant_of-self-in-Err c =
    let at = (goal.at.invariant_of-self-in-Err c).After-attempt in
    let kept = c.in-Err.ensures.err_store in
    kept_sound (old at) c.attempt.new.kv (left at) c.args.c c.in-Some.txn.now c.attempt.new.self c.self.invariant (writes at) c.in-Err.ensures.err
    (λ n le. kept.maps n) (λ n. ap (λ l. times_pinned (record (old at).kv { pins = l }) n) kept.same.pins) kept.same.number

pub returns-in-Err-clause-err : goal.returns-in-Err-clause-err
returns-in-Err-clause-err c =
    let at = (goal.at.returns-in-Err-clause-err c).After-attempt in
    let kept = c.in-Err.ensures.err_store in
    subst (λ (t : TablesView). IsAlike t (record (old at) { kv = c.attempt.new.kv; clients = left at })) c.self.view_is (record {
      clients = (writes at).alike (ap without_hand c.in-Err.ensures.err);
      number = kept.same.number;
      map = ap (metadata_at c.attempt.new.kv) kept.same.number ∙ kept.maps c.self.inside.kv.number;
      versions = kept.same.versions;
      pins = λ n. ap (λ l. times_pinned (record (old at).kv { pins = l }) n) kept.same.pins;
      next_tx = refl;
      beside = refl;
    })

pub returns-then-not-ended-clause-turn : goal.returns-then-not-ended-clause-turn
returns-then-not-ended-clause-turn c =
    let at = (goal.at.returns-then-not-ended-clause-turn c).After-attempt in
    let did = c.in-Ok.ensures in
    let x = c.in-Some.txn.now in
    turn at (record (old at) { kv = c.attempt.new.kv; clients = left at }) c.in-Ok.answer
    (try_goes (old at) c.attempt.new.kv (left at) c.args.c x c.attempt.new.self c.in-Ok.answer (c.self.invariant.each c.args.c x (writes at).there).going
    (writes at) did.refused did.tried did.meaning did.maps did.fit (sym c.ended.ensures ∙ c.if-not-ended.true))

pub invariant_of-self-then-not-ended : goal.invariant_of-self-then-not-ended
invariant_of-self-then-not-ended c =
    let at = (goal.at.invariant_of-self-then-not-ended c).After-attempt in
    let did = c.in-Ok.ensures in
    let x = c.in-Some.txn.now in
    try_sound (old at) (record (old at) { kv = c.attempt.new.kv; clients = left at }) c.args.c x c.in-Ok.answer c.self.invariant (writes at).there
    (try_goes (old at) c.attempt.new.kv (left at) c.args.c x c.attempt.new.self c.in-Ok.answer (c.self.invariant.each c.args.c x (writes at).there).going
    (writes at) did.refused did.tried did.meaning did.maps did.fit (sym c.ended.ensures ∙ c.if-not-ended.true))

pub returns-clause-turn : goal.returns-clause-turn
returns-clause-turn c =
    let at = (goal.at.returns-clause-turn c).After-attempt in
    let did = c.in-Ok.ensures in
    let x = c.in-Some.txn.now in
    let new : TablesView = record (old at) { kv = c.end.new.kv; clients = c.end.new.clients.entries } in
    turn at new c.in-Ok.answer
    (try_ends (old at) c.attempt.new.kv (left at) c.args.c x c.attempt.new.self c.in-Ok.answer (c.self.invariant.each c.args.c x (writes at).there).going
    (writes at) did.refused did.tried did.meaning did.maps did.fit new c.end.ensures.clients refl refl c.end.ensures.kv c.end.ensures.unpinned
    (sym c.ended.ensures ∙ c.if-not-ended.false))

pub invariant_of-self-2 : goal.invariant_of-self-2
invariant_of-self-2 c =
    let at = (goal.at.invariant_of-self-2 c).After-attempt in
    let did = c.in-Ok.ensures in
    let x = c.in-Some.txn.now in
    let new : TablesView = record (old at) { kv = c.end.new.kv; clients = c.end.new.clients.entries } in
    try_sound (old at) new c.args.c x c.in-Ok.answer c.self.invariant (writes at).there
    (try_ends (old at) c.attempt.new.kv (left at) c.args.c x c.attempt.new.self c.in-Ok.answer (c.self.invariant.each c.args.c x (writes at).there).going
    (writes at) did.refused did.tried did.meaning did.maps did.fit new c.end.ensures.clients refl refl c.end.ensures.kv c.end.ensures.unpinned
    (sym c.ended.ensures ∙ c.if-not-ended.false))

pub returns-in_default-clause-turn : goal.returns-in_default-clause-turn
returns-in_default-clause-turn c =
    let before = tables_of c.self.inside in
    let clients = c.get_mut.follows.lender-at-none.entries in
    let new : TablesView = record before { clients = clients } in
    subst (λ (t : TablesView). MatchOption (of_client t.clients c.args.c) (Refuses t new c.args.c NoTx (Answer.Refused NoTx))
    (λ z. TryTurn t new c.args.c z (Answer.Refused NoTx))) c.self.view_is
    (at_none (of_client before.clients c.args.c) _ _ (sym c.get_mut.ensures.value ∙ ap option_copied_mut c.in_default.is)
    (refused_same before clients c.args.c NoTx (ap (λ m. m.entries) c.get_mut.follows.holds-at-none)))
