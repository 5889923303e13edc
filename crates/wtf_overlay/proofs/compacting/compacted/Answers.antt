use Rattle.std.proofs.Common.{◌≡◌, ◌∷◌, rules, subst}
use Rattle.std.proofs.lemmas.List.{append-nil}
use Rattle.wtf_overlay.specs.Runs.{IsRun}
use Rattle.wtf_overlay.proofs.Building.{nothing}
use Rattle.wtf_overlay.proofs.Compacts.{Compacting-done, after_put}
use Rattle.wtf_overlay.proofs.compacting.compacted.Goals as goal

pub loop-e-preserved : goal.loop-e-preserved
loop-e-preserved c =
    let e = c.in-Some.e.now in
    let after = c.in-Some.after.now in
    let is : c.loop-e.rest.now ≡ e ∷ after = search rules in
    after_put c.loop-e.out.items c.put.new.out.items after c.args.run.now e c.in_ok-put.ensures (rw is at c.loop-e.invariant)

pub returns-clause-compact : goal.returns-clause-compact
returns-clause-compact c =
    let is = nothing c.loop-e.rest.now c.in_default.ensures.cases in
    Compacting-done c.loop-e.out.items c.args.run.now (rw is at c.loop-e.invariant)

pub returns-clause-run : goal.returns-clause-run
returns-clause-run c =
    let is = nothing c.loop-e.rest.now c.in_default.ensures.cases in
    let done = rw is at c.loop-e.invariant in
    subst (λ l. IsRun l) (append-nil c.loop-e.out.items) done.run
