use Rattle.std.proofs.Common.{length}
use Rattle.wtf_carry.proofs.lines.+push_ways.Given as goal

-- a parent is shorter
abbrev pub decreases-push_ways : goal.decreases-push_ways
decreases-push_ways l = length l.path.now
