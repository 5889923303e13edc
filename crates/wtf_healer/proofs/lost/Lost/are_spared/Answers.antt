use Rattle.std.proofs.Common.{arith}
use Rattle.wtf_healer.proofs.lost.Lost.are_spared.Goals as goal

pub returns-then-self-settings : goal.returns-then-self-settings
returns-then-self-settings c ks h a = let le = h.least c.args.settings.servers a.known in omega (arith, le)
