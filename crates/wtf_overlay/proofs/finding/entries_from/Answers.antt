use Rattle.std.proofs.Common.{◌≡◌, ◌+◌, ◌-◌, ◌/◌, arith, length, drop, take, take_all, length-drop}
use Rattle.wtf_overlay.proofs.Dropping.{same_read, IsRunIn-drop, EdgesIn-drop}
use Rattle.wtf_overlay.proofs.finding.entries_from.Goals as goal

pub loop-low-preserved-then-end-x : goal.loop-low-preserved-then-end-x
loop-low-preserved-then-end-x c = record {
  order = omega arith;
  within = omega arith;
  same = same_read _ c.args.run.now (c.loop-low.low + (c.loop-low.high - c.loop-low.low) / 2) c.args.x c.index-run-mid.result
      (omega arith) c.requires.run c.index-run-mid.is (omega arith);
}

pub returns-clause-run : goal.returns-clause-run
returns-clause-run c =
    let all : take (length c.args.run.now - c.loop-low.low) (drop c.loop-low.low c.args.run.now) ≡ drop c.loop-low.low c.args.run.now =
    take_all _ _ (omega (arith, length-drop c.loop-low.low c.args.run.now)) in
    rw all (IsRunIn-drop 0 _ c.args.run.now c.loop-low.low (omega arith) c.requires.run)

pub returns-clause-edges : goal.returns-clause-edges
returns-clause-edges c = λ p edges.
    let all : take (length c.args.run.now - c.loop-low.low) (drop c.loop-low.low c.args.run.now) ≡ drop c.loop-low.low c.args.run.now =
    take_all _ _ (omega (arith, length-drop c.loop-low.low c.args.run.now)) in
    rw all (EdgesIn-drop p c.args.run.now c.loop-low.low (omega arith) edges)
