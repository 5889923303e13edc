use Rattle.std.proofs.Common.{◌≡◌, ◌==◌, false, sym, subst, arith}
use Rattle.std.specs.List.{IsDistinct, list_any}
use Rattle.wtf_ring.proofs.Meeting.{once_more, room}
use Rattle.wtf_ring.proofs.meet.meet_one.Goals as goal

pub push-requires : goal.push-requires
push-requires c =
    let new : list_any (λ j. j == c.args.server) c.args.met.now.items ≡ false = cc in
    (omega arith, room c.args.met.now.items c.args.server 16 c.requires.once c.requires.known c.requires.server new)

pub returns-then-not-contains-clause-once : goal.returns-then-not-contains-clause-once
returns-then-not-contains-clause-once c =
    let new : list_any (λ j. j == c.args.server) c.args.met.now.items ≡ false = cc in
    subst (IsDistinct _) (sym c.push.ensures.items) (once_more c.args.met.now.items c.args.server c.requires.once new)
