use Rattle.std.proofs.Common.{◌≡◌, ◌+◌, ◌++◌, [], ◌∷◌, take, arith, rules, subst}
use Rattle.std.proofs.lemmas.List.{take_more, take_all}
use Rattle.wtf_overlay.specs.Runs.{IsRun}
use Rattle.wtf_overlay.proofs.Building.{IsRunIn-push, IsRunIn-higher}
use Rattle.wtf_overlay.proofs.tails.is_run.Goals as goal

pub loop-e-preserved : goal.loop-e-preserved
loop-e-preserved c =
    let e = c.e-item.result in
    let es = c.args.entries.now in
    let i = c.loop-e.e-index in
    let more : take (i + 1) es ≡ take i es ++ e ∷ [] = search (rules, take_more) in
    record {
      within = omega (arith, e.fits);
      run = rw more (IsRunIn-push 0 c.loop-e.end c.end-end.result (take i es) e (omega arith) (omega arith) c.loop-e.invariant.run);
    }

pub returns : goal.returns
returns c = λ _.
    let es = c.args.entries.now in
    let i = c.loop-e.e-index in
    let all : take i es ≡ es = take_all i es (omega arith) in
    subst IsRun all (IsRunIn-higher 0 c.loop-e.end _ (take i es) c.loop-e.invariant.within c.loop-e.invariant.run)
