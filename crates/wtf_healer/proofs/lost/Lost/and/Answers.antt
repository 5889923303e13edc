use Rattle.std.proofs.Common.{refl}
use Rattle.wtf_healer.proofs.Losing.{lost_and}
use Rattle.wtf_healer.proofs.lost.Lost.and.Goals as goal

pub returns : goal.returns
returns c ks h = lost_and ks c.args.self.now _ c.args.k c.requires refl c.max.ensures h
