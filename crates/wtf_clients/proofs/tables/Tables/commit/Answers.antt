use Rattle.wtf_clients.proofs.Common.{option_copied_mut, Verb, any_slice, stores, is_inside, Clients, TablesView, of_client, refl, sym, ap, subst, ◌∙◌}
use Rattle.wtf_clients.proofs.{Lives.AreInside, Lives.tables_of, ClientLines.commit_line, ClientLines.commit_lost, ClientLines.not_begun, Lining.line_of}
use Rattle.wtf_clients.proofs.{Lists.Writes, Lists.written, Lives.now_bytes, Making.at_none, Making.kept_sound, Making.commit_gone, Soundness.ended_up}
use Rattle.wtf_clients.proofs.{Soundness.ends_sound}
use Rattle.wtf_clients.proofs.tables.Tables.commit.Given.{Over}
use Rattle.wtf_clients.proofs.tables.Tables.commit.Goals as goal
use Rattle.wtf_clients.proofs.tables.Tables.commit.Goals.{After-commit, After-end}

module _ (g : Over) (c : After-commit g) where
  -- the tables before it, and the clients as the verb left them
  abbrev old : TablesView
  old = tables_of c.self.inside

  abbrev left : Clients
  left = (c.get_mut.follows.lender c.commit.new.self).entries

  -- the transaction of the client
  writes : Writes c.args.c old.clients c.in-Some.txn.now c.commit.new.self left
  writes =
      written c.args.c c.self.inside.clients (c.get_mut.follows.lender c.commit.new.self) c.in-Some.txn.now c.commit.new.self
      (sym c.get_mut.ensures.value ∙ ap option_copied_mut c.in-Some.is) (c.get_mut.follows.holds c.commit.new.self)

  inside : AreInside g.S.SliceStore.kind c.args.dev.now old
  inside = subst (AreInside g.S.SliceStore.kind c.args.dev.now) (sym c.self.view_is) c.requires.inside

pub commit-requires-clause-going : goal.commit-requires-clause-going
commit-requires-clause-going g c = (c.self.invariant.each c.args.c c.in-Some.txn.now (sym c.get_mut.ensures.value ∙ ap option_copied_mut c.in-Some.is)).going

pub commit-requires-clause-fit : goal.commit-requires-clause-fit
commit-requires-clause-fit g c = (c.self.invariant.each c.args.c c.in-Some.txn.now (sym c.get_mut.ensures.value ∙ ap option_copied_mut c.in-Some.is)).fit

pub commit-requires-clause-inside : goal.commit-requires-clause-inside
commit-requires-clause-inside g c =
    (subst (AreInside g.S.SliceStore.kind c.args.dev.now) (sym c.self.view_is) c.requires.inside).each c.args.c c.in-Some.txn.now
    (sym c.get_mut.ensures.value ∙ ap option_copied_mut c.in-Some.is)

-- the client has no transaction
pub returns-in_default : goal.returns-in_default
returns-in_default g c =
    let before = tables_of c.self.inside in
    line_of c.self.view_is (not_begun g.met.S.SliceStore.laws c.args.dev.now c.requires.dev before c.self.invariant
    (subst (AreInside g.S.SliceStore.kind c.args.dev.now) (sym c.self.view_is) c.requires.inside) c.get_mut.follows.lender-at-none.entries
    (ap (λ m. m.entries) c.get_mut.follows.holds-at-none) c.args.c Verb.Commit
    (at_none (of_client before.clients c.args.c) _ _ (sym c.get_mut.ensures.value ∙ ap option_copied_mut c.in_default.is)))

pub commit-requires-clause-inside_now : goal.commit-requires-clause-inside_now
commit-requires-clause-inside_now g c =
    let dev = c.args.dev.now in
    now_bytes (is_inside g.S.SliceStore.kind (stores dev) dev.settings) any_slice _
    (subst (AreInside g.S.SliceStore.kind dev) (sym c.self.view_is) c.requires.inside)

pub returns-in-Err : goal.returns-in-Err
returns-in-Err g c =
    let at = (goal.at.returns-in-Err g c).After-commit in
    line_of c.self.view_is
    (commit_lost g.met.S.SliceStore.laws c.args.dev.now c.commit.new.dev c.requires.dev c.requires.ring (old g at) c.self.invariant (inside g at) c.args.c
    c.in-Some.txn.now c.commit.new.self (left g at) (writes g at) c.commit.new.kv c.in-Err.why c.answer_to.result
    c.answer_to.ensures.answer c.in-Err.ensures.commit)

pub invariant_of-self-in-Err : goal.invariant_of-self-in-Err
invariant_of-self-in-Err g c =
    let at = (goal.at.invariant_of-self-in-Err g c).After-commit in
    let did = c.in-Err.ensures.commit in
    kept_sound (old g at) c.commit.new.kv (left g at) c.args.c c.in-Some.txn.now c.commit.new.self c.self.invariant (writes g at) did.err did.maps did.pins
    did.err_store.0

-- the transaction has gone
abbrev over : (g : Over) → After-end g → TablesView
over g c = record (tables_of c.self.inside) { kv = c.end.new.kv; clients = c.end.new.clients.entries }

pub returns : goal.returns
returns g c =
    let at = (goal.at.returns g c).After-commit in
    line_of c.self.view_is
    (commit_line g.met.S.SliceStore.laws c.args.dev.now c.commit.new.dev c.requires.dev c.requires.ring (old g at) c.self.invariant (inside g at) c.args.c
    c.in-Some.txn.now c.commit.new.self (left g at) (writes g at) (over g (goal.at.returns g c).After-end) c.commit.new.kv
    c.end.ensures.clients refl refl c.end.ensures.kv c.end.ensures.unpinned c.in-Ok.answer c.in-Ok.ensures.commit)

pub invariant_of-self-2 : goal.invariant_of-self-2
invariant_of-self-2 g c =
    let at = (goal.at.invariant_of-self-2 g c).After-commit in
    let new = over g (goal.at.invariant_of-self-2 g c).After-end in
    ends_sound (old g at) new c.commit.new.kv c.args.c c.in-Some.txn.now c.self.invariant (writes g at).there
    (ended_up (old g at).kv c.commit.new.kv c.in-Ok.answer c.in-Ok.ensures.commit.ended)
    (commit_gone g.S.SliceStore.kind c.args.dev.now c.commit.new.dev c.requires.ring (old g at) c.args.c c.in-Some.txn.now c.commit.new.self
    (writes g at).there (left g at) (writes g at).sets new c.commit.new.kv c.end.ensures.clients refl refl c.end.ensures.kv c.end.ensures.unpinned
    c.in-Ok.answer c.in-Ok.ensures.commit)
