use Rattle.std.proofs.Common.{◌≡◌, ◌++◌, map}
use Rattle.std.specs.List.{range_with_len}
use Rattle.wtf_ring.specs.Points.{point_of}
use Rattle.wtf_ring.proofs.point.add_points.Given as goal

abbrev pub invariant-loop-node : goal.invariant-loop-node
invariant-loop-node l = l.points.items ≡ l.fn.points.items ++ map (point_of l.server) (range_with_len 0 l.node)
