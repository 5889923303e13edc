use Rattle.wtf_overlay.proofs.Dropping.{same_take}
use Rattle.wtf_overlay.proofs.finding.first_few.Goals as goal

pub returns-then-x-run-clause-same : goal.returns-then-x-run-clause-same
returns-then-x-run-clause-same c =
    same_take 0 _ c.args.run.now c.loop-many.many c.args.x c.index-run-many.result c.loop-many-test.true c.requires.run c.if-x-run.true
