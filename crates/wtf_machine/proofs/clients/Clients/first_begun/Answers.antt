use Rattle.std.proofs.Common.{sym, ap, ◌∙◌}
use Rattle.std.specs.Option.{option_map}
use Rattle.wtf_machine.proofs.ScanWays.{begins, goes-on, ends}
use Rattle.wtf_machine.proofs.clients.Clients.first_begun.Goals as goal

pub loop-c-init : goal.loop-c-init
loop-c-init c = begins c.args.self.now.changed.items c.args.noted.now _ _ c.iter-rest.ensures.rest

pub loop-c-preserved-then-contains : goal.loop-c-preserved-then-contains
loop-c-preserved-then-contains c =
    goes-on c.args.self.now.changed.items c.args.noted.now c.args.self.now.items.entries c.loop-c.rest c.next_back.new.self c.in-Some.c.now c.in-Some.t.now
    c.loop-c.first c.earlier.result c.loop-c.invariant c.in-Some.ensures.steps
    (sym c.contains.ensures.value ∙ c.if-contains.true) (c.earlier.ensures c.args.self.now.changed.items)

pub returns-in_err-c : goal.returns-in_err-c
returns-in_err-c c =
    c.from_residual.ensures ∙ ap (option_map (λ p. p.0)) (sym c.in_err-c.was)
    ∙ ends c.args.self.now.changed.items c.args.noted.now c.args.self.now.items.entries c.loop-c.rest c.loop-c.first c.iter-rest.ensures.ordered
    c.loop-c.invariant c.in_default.ensures.steps.0

pub returns : goal.returns
returns c =
    ap (option_map (λ p. p.0)) (sym c.in_ok-c.was)
    ∙ ends c.args.self.now.changed.items c.args.noted.now c.args.self.now.items.entries c.loop-c.rest c.loop-c.first c.iter-rest.ensures.ordered
    c.loop-c.invariant c.in_default.ensures.steps.0
