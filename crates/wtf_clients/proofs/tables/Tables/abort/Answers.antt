use Rattle.wtf_clients.proofs.Common.{NoTx, TablesView, of_client, ◌≡◌, ◌∙◌, false, is_some, refl, sym, subst}
use Rattle.wtf_clients.proofs.{Making.at_none, Making.nothing_there, Making.refused_same, Soundness.dropped_sound, Lives.tables_of}
use Rattle.wtf_clients.proofs.tables.Tables.abort.Goals as goal

pub returns-then-not-contains_key : goal.returns-then-not-contains_key
returns-then-not-contains_key c =
    let old = c.args.self.now in
    record {
      turn = at_none (of_client old.clients c.args.c) _ _
          (nothing_there (of_client old.clients c.args.c)
          (subst (λ (t : TablesView). is_some (of_client t.clients c.args.c) ≡ false) c.self.view_is (sym c.contains_key.ensures ∙ c.if-not-contains_key.true)))
          (refused_same old old.clients c.args.c NoTx refl);
    }

pub invariant_of-self : goal.invariant_of-self
invariant_of-self c =
    let old = tables_of c.self.inside in
    dropped_sound old c.end.new.kv c.end.new.clients.entries c.args.c c.self.invariant (sym c.contains_key.ensures ∙ c.if-not-contains_key.false)
    c.end.ensures.clients c.end.ensures.kv c.end.ensures.unpinned
