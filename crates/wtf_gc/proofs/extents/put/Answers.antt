use Rattle.wtf_gc.proofs.Adding.{put_joined}
use Rattle.wtf_gc.proofs.extents.put.Goals as goal

pub returns : goal.returns
returns c =
    put_joined c.pop.new.self.items c.args.out.now.items c.push-2.new.self.items c.in-Some.last c.in-Some-joined.both c.args.e
    c.in-Some.ensures.items c.in_ok-push-4.ensures.items
    c.in-Some-joined.ensures
