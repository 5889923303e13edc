use Rattle.wtf_clients.proofs.Common.{option_copied_mut, Verb, Clients, TablesView, of_client, refl, sym, ap, subst, ◌∙◌, arith}
use Rattle.wtf_clients.proofs.{Lives.AreInside, Lives.tables_of, ClientLines.step_line, ClientLines.step_lost, ClientLines.step_over, ClientLines.not_begun}
use Rattle.wtf_clients.proofs.{Lining.line_of, Lists.Writes, Lists.written, Making.at_none, Making.step_gone, Soundness.stepped_sound}
use Rattle.wtf_clients.proofs.{Soundness.step_lost_sound, Soundness.ends_sound}
use Rattle.wtf_clients.proofs.tables.Tables.step.Given.{Over}
use Rattle.wtf_clients.proofs.tables.Tables.step.Goals as goal
use Rattle.wtf_clients.proofs.tables.Tables.step.Goals.{After-step, After-end}

module _ (g : Over) (c : After-step g) where
  -- the tables before it, and the clients as the verb left them
  abbrev old : TablesView
  old = tables_of c.self.inside

  abbrev left : Clients
  left = (c.get_mut.follows.lender c.step.new.self).entries

  -- the transaction of the client
  writes : Writes c.args.c old.clients c.in-Some.txn.now c.step.new.self left
  writes =
      written c.args.c c.self.inside.clients (c.get_mut.follows.lender c.step.new.self) c.in-Some.txn.now c.step.new.self
      (sym c.get_mut.ensures.value ∙ ap option_copied_mut c.in-Some.is) (c.get_mut.follows.holds c.step.new.self)

  inside : AreInside g.S.SliceStore.kind c.args.dev.now old
  inside = subst (AreInside g.S.SliceStore.kind c.args.dev.now) (sym c.self.view_is) c.requires.inside

pub step-requires-clause-going : goal.step-requires-clause-going
step-requires-clause-going g c = (c.self.invariant.each c.args.c c.in-Some.txn.now (sym c.get_mut.ensures.value ∙ ap option_copied_mut c.in-Some.is)).going

pub step-requires-clause-fit : goal.step-requires-clause-fit
step-requires-clause-fit g c = (c.self.invariant.each c.args.c c.in-Some.txn.now (sym c.get_mut.ensures.value ∙ ap option_copied_mut c.in-Some.is)).fit

pub step-requires-clause-inside : goal.step-requires-clause-inside
step-requires-clause-inside g c =
    (subst (AreInside g.S.SliceStore.kind c.args.dev.now) (sym c.self.view_is) c.requires.inside).each c.args.c c.in-Some.txn.now
    (sym c.get_mut.ensures.value ∙ ap option_copied_mut c.in-Some.is)

-- the client has no transaction
pub returns-in_default : goal.returns-in_default
returns-in_default g c =
    let before = tables_of c.self.inside in
    line_of c.self.view_is (not_begun g.met.S.SliceStore.laws c.args.dev.now c.requires.dev before c.self.invariant
    (subst (AreInside g.S.SliceStore.kind c.args.dev.now) (sym c.self.view_is) c.requires.inside) c.get_mut.follows.lender-at-none.entries
    (ap (λ m. m.entries) c.get_mut.follows.holds-at-none) c.args.c Verb.Step
    (at_none (of_client before.clients c.args.c) _ _ (sym c.get_mut.ensures.value ∙ ap option_copied_mut c.in_default.is)))

pub returns-in-Err : goal.returns-in-Err
returns-in-Err g c =
    let at = (goal.at.returns-in-Err g c).After-step in
    line_of c.self.view_is
    (step_lost g.met.S.SliceStore.laws c.args.dev.now c.step.new.dev c.requires.dev c.requires.ring (old g at) c.self.invariant (inside g at) c.args.c
    c.in-Some.txn.now c.step.new.self (left g at) (writes g at) c.in-Err.why c.answer_to.result c.answer_to.ensures.answer c.in-Err.ensures.step)

pub returns-then-not-ended : goal.returns-then-not-ended
returns-then-not-ended g c =
    let at = (goal.at.returns-then-not-ended g c).After-step in
    line_of c.self.view_is
    (step_line g.met.S.SliceStore.laws c.args.dev.now c.step.new.dev c.requires.dev c.requires.ring (old g at) c.self.invariant (inside g at) c.args.c
    c.in-Some.txn.now c.step.new.self (left g at) (writes g at) c.in-Ok.answer c.in-Ok.ensures.step (sym c.ended.ensures ∙ c.if-not-ended.true))

pub invariant_of-self-in-Err : goal.invariant_of-self-in-Err
invariant_of-self-in-Err g c =
    let at = (goal.at.invariant_of-self-in-Err g c).After-step in
    step_lost_sound g.S.SliceStore.kind c.args.dev.now c.step.new.dev (old g at) c.args.c c.in-Some.txn.now c.step.new.self c.self.invariant (left g at)
    (writes g at) c.in-Err.why c.in-Err.ensures.step

pub invariant_of-self-then-not-ended : goal.invariant_of-self-then-not-ended
invariant_of-self-then-not-ended g c =
    let at = (goal.at.invariant_of-self-then-not-ended g c).After-step in
    stepped_sound g.S.SliceStore.kind c.args.dev.now c.step.new.dev (old g at) c.args.c c.in-Some.txn.now c.step.new.self c.self.invariant (left g at)
    (writes g at) c.in-Ok.answer c.in-Ok.ensures.step (sym c.ended.ensures ∙ c.if-not-ended.true)

-- the transaction has gone
abbrev over : (g : Over) → After-end g → TablesView
over g c = record (tables_of c.self.inside) { kv = c.end.new.kv; clients = c.end.new.clients.entries }

pub returns : goal.returns
returns g c =
    let at = (goal.at.returns g c).After-step in
    let open_one = c.self.invariant.each c.args.c c.in-Some.txn.now (writes g at).there in
    line_of c.self.view_is
    (step_over g.met.S.SliceStore.laws c.args.dev.now c.step.new.dev c.requires.dev c.requires.ring (old g at) c.self.invariant (inside g at) c.args.c
    c.in-Some.txn.now c.step.new.self (left g at) (writes g at) (over g (goal.at.returns g c).After-end) (old g at).kv
    c.end.ensures.clients refl refl c.end.ensures.kv c.end.ensures.unpinned c.in-Ok.answer refl open_one.going c.in-Ok.ensures.step
    (sym c.ended.ensures ∙ c.if-not-ended.false))

pub invariant_of-self-2 : goal.invariant_of-self-2
invariant_of-self-2 g c =
    let at = (goal.at.invariant_of-self-2 g c).After-step in
    let new = over g (goal.at.invariant_of-self-2 g c).After-end in
    let open_one = c.self.invariant.each c.args.c c.in-Some.txn.now (writes g at).there in
    ends_sound (old g at) new (old g at).kv c.args.c c.in-Some.txn.now c.self.invariant (writes g at).there (omega arith)
    (step_gone g.S.SliceStore.kind c.args.dev.now c.step.new.dev c.requires.ring (old g at) c.args.c c.in-Some.txn.now c.step.new.self (writes g at).there
    (left g at) (writes g at).sets new (old g at).kv c.end.ensures.clients refl refl c.end.ensures.kv c.end.ensures.unpinned c.in-Ok.answer refl
    open_one.going c.in-Ok.ensures.step (sym c.ended.ensures ∙ c.if-not-ended.false))
