use Rattle.std.proofs.Common.{◌≡◌}
use Rattle.wtf_ring.specs.Points.{points_of}
use Rattle.wtf_ring.proofs.point.all_points.Given as goal

abbrev pub invariant-loop-server : goal.invariant-loop-server
invariant-loop-server l = l.points.items ≡ points_of l.server
