use Rattle.std.proofs.Common.{◌≡◌, ◌∷◌, arith, rules}
use Rattle.wtf_overlay.proofs.Building.{run_rest, same_rest}
use Rattle.wtf_overlay.proofs.planning.past.Goals as goal

pub loop-e-preserved : goal.loop-e-preserved
loop-e-preserved c =
    let e = c.in-Some.e.now in
    let i = c.loop-e.invariant in
    let is : c.loop-e.rest.now ≡ e ∷ c.in-Some.after.now = search rules in
    record {
      run = run_rest 0 _ e c.in-Some.after.now (rw is at i.run);
      same = same_rest c.args.run.now c.in-Some.after.now e c.args.x c.args.x (omega arith) (omega arith) (rw is at i.same);
      edges = λ p all. let k = rw is at (i.edges p all) in k.2;
    }
