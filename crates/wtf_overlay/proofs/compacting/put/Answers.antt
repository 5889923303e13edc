use Rattle.std.proofs.Common.{inr}
use Rattle.wtf_overlay.proofs.compacting.put.Goals as goal

pub returns : goal.returns
returns c = inr (inr (record {
  front = c.pop.new.self.items;
  last = c.in-Some.last;
  both = c.in-Some-joined.both;
  was = c.in-Some.ensures.items;
  is = c.in_ok-push-4.ensures.items;
  join = c.in-Some-joined.ensures;
}))
