use Rattle.std.proofs.Common.{◌≡◌, ◌∷◌, rules}
use Rattle.std.proofs.lemmas.Result.{err_from_is_err_and}
use Rattle.wtf_overlay.proofs.Building.{nothing}
use Rattle.wtf_overlay.proofs.Looked.{Looked-init, Looked-step, Looked-done, Looked-cause}
use Rattle.wtf_overlay.proofs.checking.look.Goals as goal

pub loop-e-init : goal.loop-e-init
loop-e-init c = Looked-init c.args.end c.args.entries.now

pub loop-e-preserved : goal.loop-e-preserved
loop-e-preserved c =
    let e = c.in-Some.e.now in
    let after = c.in-Some.after.now in
    let is : c.loop-e.rest.now ≡ e ∷ after = search rules in
    Looked-step c.args.end c.args.entries.now after e c.in_ok-stands_before.ensures.stands (rw is at c.loop-e.invariant)

pub returns-clause-compact : goal.returns-clause-compact
returns-clause-compact c =
    let is = nothing c.loop-e.rest.now c.in_default.ensures.cases in
    (Looked-done c.args.end c.args.entries.now (rw is at c.loop-e.invariant)).0

pub returns-clause-within : goal.returns-clause-within
returns-clause-within c =
    let is = nothing c.loop-e.rest.now c.in_default.ensures.cases in
    (Looked-done c.args.end c.args.entries.now (rw is at c.loop-e.invariant)).1

pub returns-in_err-stands_before-clause-cause : goal.returns-in_err-stands_before-clause-cause
returns-in_err-stands_before-clause-cause c =
    let p = err_from_is_err_and c.from_residual.result c.from_residual.ensures.1 in
    let e = c.in-Some.e.now in
    let after = c.in-Some.after.now in
    let is : c.loop-e.rest.now ≡ e ∷ after = search rules in
    rw (p.1, p.2) (Looked-cause c.args.end c.args.entries.now after e c.in_err-stands_before.field-0.0 (rw is at c.loop-e.invariant) c.in_err-stands_before.ensures.cause)
