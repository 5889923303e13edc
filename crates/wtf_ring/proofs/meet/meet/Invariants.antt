use Rattle.std.proofs.Common.{◌≡◌, ◌<◌, map, nat_eq, drop}
use Rattle.std.specs.List.{All, IsDistinct}
use Rattle.wtf_ring.specs.Points.{met_after}
use Rattle.wtf_ring.specs.declared.point.Point.{Point}
use Rattle.wtf_ring.proofs.meet.meet.Given as goal

-- with the servers of the points that are left, the list will be as is due
abbrev pub invariant-loop-point : goal.invariant-loop-point
invariant-loop-point l = record {
  value : met_after l.met.items (map (λ (p : Point). p.server) (drop l.point-index l.points)) ≡ met_after l.fn.met.items (map (λ (p : Point). p.server) l.points);
  once : IsDistinct nat_eq l.met.items;
  known : All (λ k. k < 16) l.met.items;
}
