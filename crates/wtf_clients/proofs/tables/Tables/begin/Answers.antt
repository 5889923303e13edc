use Rattle.wtf_clients.proofs.Common.{insert_entry-new, Answer, InTx, TablesView, of_client, Begins, Refuses, ◌≡◌, ◌+◌, ◌∙◌, true, None, is_some, nat_eq, refl}
use Rattle.wtf_clients.proofs.Common.{sym, subst, MatchOption}
use Rattle.wtf_clients.proofs.{Making.at_none, Making.at_there, Making.nothing_there, Making.refused_same, Making.begins, Soundness.begins_sound}
use Rattle.wtf_clients.proofs.{Lives.tables_of}
use Rattle.wtf_clients.proofs.tables.Tables.begin.Goals as goal
use Rattle.wtf_clients.proofs.tables.Tables.begin.Goals.{After-insert}

-- the tables before it and after it
abbrev old : After-insert → TablesView
old c = tables_of c.self.inside

abbrev new : After-insert → TablesView
new c = record { kv = c.begin.new.kv; next_tx = c.self.inside.next_tx + 1; clients = c.insert.new.self.entries; beside = c.self.inside.beside }

none : (c : After-insert) → of_client (old c).clients c.args.c ≡ None
none c = nothing_there (of_client (old c).clients c.args.c) (sym c.contains_key.ensures ∙ c.if-contains_key.false)

pub returns-in-Ok-insert-clause-turn : goal.returns-in-Ok-insert-clause-turn
returns-in-Ok-insert-clause-turn c =
    let at = (goal.at.returns-in-Ok-insert-clause-turn c).After-insert in
    let made = c.in-Ok.ensures in
    let put = c.in-Ok-insert.ensures in
    subst (λ (t : TablesView). MatchOption (of_client t.clients c.args.c) (Begins t (new at) c.args.c (Answer.Begun c.number-number.result))
    (λ x. Refuses t (new at) c.args.c InTx (Answer.Begun c.number-number.result))) c.self.view_is
    (at_none (of_client (old at).clients c.args.c) _ _ (none at)
    (begins (old at) c.begin.new.kv c.reserve.new.self.entries c.insert.new.self.entries c.args.c c.number-number.result c.in-Ok.txn (none at)
    c.number-number.ensures.number c.reserve.ensures.entries
    (λ gone. put.entries ∙ insert_entry-new nat_eq c.reserve.new.self c.args.c c.in-Ok.txn gone)
    put.updates.0 made.value made.ok made.pinned made.fit made.sound))

pub invariant_of-self-in-Ok-insert : goal.invariant_of-self-in-Ok-insert
invariant_of-self-in-Ok-insert c =
    let at = (goal.at.invariant_of-self-in-Ok-insert c).After-insert in
    let made = c.in-Ok.ensures in
    let put = c.in-Ok-insert.ensures in
    begins_sound (old at) (new at) c.args.c (Answer.Begun c.number-number.result) c.self.invariant (none at)
    (begins (old at) c.begin.new.kv c.reserve.new.self.entries c.insert.new.self.entries c.args.c c.number-number.result c.in-Ok.txn (none at)
    c.number-number.ensures.number c.reserve.ensures.entries
    (λ gone. put.entries ∙ insert_entry-new nat_eq c.reserve.new.self c.args.c c.in-Ok.txn gone)
    put.updates.0 made.value made.ok made.pinned made.fit made.sound)

pub returns-then-contains_key-clause-turn : goal.returns-then-contains_key-clause-turn
returns-then-contains_key-clause-turn c =
    let at = c.args.self.now in
    at_there (of_client at.clients c.args.c) _ _
    (subst (λ (t : TablesView). is_some (of_client t.clients c.args.c) ≡ true) c.self.view_is (sym c.contains_key.ensures ∙ c.if-contains_key.true))
    (λ x. refused_same at at.clients c.args.c InTx refl)
