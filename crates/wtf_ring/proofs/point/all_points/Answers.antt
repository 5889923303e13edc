use Rattle.std.proofs.Common.{◌++◌, map, ap, ◌∙◌, sym}
use Rattle.std.specs.List.{range_with_len}
use Rattle.wtf_ring.specs.Points.{point_of}
use Rattle.wtf_ring.proofs.Rings.{points_of-more}
use Rattle.wtf_ring.proofs.point.all_points.Goals as goal

pub loop-server-preserved : goal.loop-server-preserved
loop-server-preserved c =
    c.in_ok-add_points.ensures
    ∙ ap (λ l. l ++ map (point_of c.loop-server.server) (range_with_len 0 16)) c.loop-server.invariant
    ∙ sym (points_of-more c.loop-server.server)
