use Rattle.std.proofs.Common.{◌≡◌, ◌+◌, ◌-◌, ◌/◌, arith, length, take, take_all, sym, ap}
use Rattle.wtf_overlay.specs.Origin.{origin_from}
use Rattle.wtf_overlay.proofs.Dropping.{same_take, IsRunIn-take, EdgesIn-take}
use Rattle.wtf_overlay.proofs.finding.entries_up_to.Goals as goal

pub loop-low-init : goal.loop-low-init
loop-low-init c =
    let all : take (length c.args.run.now) c.args.run.now ≡ c.args.run.now = take_all _ _ (omega arith) in
    record {
      order = omega arith;
      within = omega arith;
      same = λ b y k. sym (ap (λ es. origin_from b es y) all);
    }

pub loop-low-preserved : goal.loop-low-preserved
loop-low-preserved c = record {
  order = omega arith;
  within = omega arith;
  same = same_take 0 _ c.args.run.now (c.loop-low.low + (c.loop-low.high - c.loop-low.low) / 2) c.args.x c.index-run-mid.result
      (omega arith) c.requires.run c.if-x-run.false;
}

pub returns-clause-run : goal.returns-clause-run
returns-clause-run c = IsRunIn-take 0 _ c.args.run.now _ c.requires.run

pub returns-clause-edges : goal.returns-clause-edges
returns-clause-edges c = λ p edges. EdgesIn-take p c.args.run.now _ edges
