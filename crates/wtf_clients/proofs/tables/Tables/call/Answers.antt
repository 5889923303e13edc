use Rattle.wtf_clients.proofs.Common.{option_copied_mut, Verb, Clients, TablesView, of_client, sym, ap, subst, ◌∙◌}
use Rattle.wtf_clients.proofs.{Lives.AreInside, Lives.tables_of, ClientLines.call_line, ClientLines.call_lost, ClientLines.not_begun, Lining.line_of}
use Rattle.wtf_clients.proofs.{Lists.Writes, Lists.written, Making.at_none, Soundness.called_sound, Soundness.call_lost_sound}
use Rattle.wtf_clients.proofs.tables.Tables.call.Given.{Over}
use Rattle.wtf_clients.proofs.tables.Tables.call.Goals as goal
use Rattle.wtf_clients.proofs.tables.Tables.call.Goals.{After-call}

module _ (g : Over) (c : After-call g) where
  -- the tables before it, and the clients as the verb left them
  abbrev old : TablesView
  old = tables_of c.self.inside

  abbrev left : Clients
  left = (c.get_mut.follows.lender c.call.new.self).entries

  -- the transaction of the client
  writes : Writes c.args.c old.clients c.in-Some.txn.now c.call.new.self left
  writes =
      written c.args.c c.self.inside.clients (c.get_mut.follows.lender c.call.new.self) c.in-Some.txn.now c.call.new.self
      (sym c.get_mut.ensures.value ∙ ap option_copied_mut c.in-Some.is) (c.get_mut.follows.holds c.call.new.self)

  inside : AreInside g.S.SliceStore.kind c.args.dev.now old
  inside = subst (AreInside g.S.SliceStore.kind c.args.dev.now) (sym c.self.view_is) c.requires.inside

pub call-requires-clause-going : goal.call-requires-clause-going
call-requires-clause-going g c = (c.self.invariant.each c.args.c c.in-Some.txn.now (sym c.get_mut.ensures.value ∙ ap option_copied_mut c.in-Some.is)).going

pub call-requires-clause-fit : goal.call-requires-clause-fit
call-requires-clause-fit g c = (c.self.invariant.each c.args.c c.in-Some.txn.now (sym c.get_mut.ensures.value ∙ ap option_copied_mut c.in-Some.is)).fit

pub call-requires-clause-inside : goal.call-requires-clause-inside
call-requires-clause-inside g c =
    (subst (AreInside g.S.SliceStore.kind c.args.dev.now) (sym c.self.view_is) c.requires.inside).each c.args.c c.in-Some.txn.now
    (sym c.get_mut.ensures.value ∙ ap option_copied_mut c.in-Some.is)

-- the client has no transaction
pub returns-in_default : goal.returns-in_default
returns-in_default g c =
    let before = tables_of c.self.inside in
    line_of c.self.view_is (not_begun g.met.S.SliceStore.laws c.args.dev.now c.requires.dev before c.self.invariant
    (subst (AreInside g.S.SliceStore.kind c.args.dev.now) (sym c.self.view_is) c.requires.inside) c.get_mut.follows.lender-at-none.entries
    (ap (λ m. m.entries) c.get_mut.follows.holds-at-none) c.args.c (Verb.Call c.args.op)
    (at_none (of_client before.clients c.args.c) _ _ (sym c.get_mut.ensures.value ∙ ap option_copied_mut c.in_default.is)))

pub returns-in-Err : goal.returns-in-Err
returns-in-Err g c =
    let at = (goal.at.returns-in-Err g c).After-call in
    line_of c.self.view_is
    (call_lost g.met.S.SliceStore.laws c.args.dev.now c.call.new.dev c.requires.dev c.requires.ring (old g at) c.self.invariant (inside g at) c.args.c
    c.in-Some.txn.now c.call.new.self (left g at) (writes g at) c.args.op c.in-Err.why c.answer_to.result c.answer_to.ensures.answer c.in-Err.ensures.call)

pub returns : goal.returns
returns g c =
    let at = (goal.at.returns g c).After-call in
    line_of c.self.view_is
    (call_line g.met.S.SliceStore.laws c.args.dev.now c.call.new.dev c.requires.dev c.requires.ring (old g at) c.self.invariant (inside g at) c.args.c
    c.in-Some.txn.now c.call.new.self (left g at) (writes g at) c.args.op c.in-Ok.answer c.in-Ok.ensures.call)

pub invariant_of-self-in-Err : goal.invariant_of-self-in-Err
invariant_of-self-in-Err g c =
    let at = (goal.at.invariant_of-self-in-Err g c).After-call in
    call_lost_sound g.S.SliceStore.kind c.args.dev.now c.call.new.dev (old g at) c.args.c c.in-Some.txn.now c.call.new.self c.self.invariant (left g at)
    (writes g at) c.args.op c.in-Err.why c.in-Err.ensures.call

pub invariant_of-self-2 : goal.invariant_of-self-2
invariant_of-self-2 g c =
    let at = (goal.at.invariant_of-self-2 g c).After-call in
    called_sound g.S.SliceStore.kind c.args.dev.now c.call.new.dev (old g at) c.args.c c.in-Some.txn.now c.call.new.self c.self.invariant (left g at)
    (writes g at) c.args.op c.in-Ok.answer c.in-Ok.ensures.call
