use Rattle.std.proofs.Common.{◌≡◌, ◌%◌, ◌<◌, List, length, slice_index, ap, ◌∙◌, sym, subst, arith, ℕ}
use Rattle.std.specs.List.{All}
use Rattle.wtf_ring.specs.Points.{RingView, IsRing, order_from, head_of, region_digest}
use Rattle.wtf_ring.specs.Orders.{IsOrder}
use Rattle.wtf_ring.specs.declared.point.Point.{Point}
use Rattle.wtf_ring.proofs.Rings.{IsRing-known, IsOrder-order_from, order_from-start}
use Rattle.wtf_ring.proofs.ring.Ring.order.Goals as goal

pub round-requires-clause-start : goal.round-requires-clause-start
round-requires-clause-start c =
    let same : c.deref.result.now ≡ c.args.self.now.points = c.deref.ensures.value ∙ ap (λ (r : RingView). r.points) c.self.view_is in
    omega (arith, c.start-start.ensures.within, ap length same)

pub round-requires-clause-points : goal.round-requires-clause-points
round-requires-clause-points c =
    subst (λ (l : List Point). All (λ (p : Point). p.server < 16) l) (sym c.deref.ensures.value) (IsRing-known c.self.inside.servers c.self.inside.points.items c.self.invariant.0 c.self.invariant.2)

servers : (c : goal.After-round) → c.round.result.items ≡ order_from (head_of (region_digest c.args.inode c.args.region)) c.args.self.now.points
servers c =
    let same : c.deref.result.now ≡ c.args.self.now.points = c.deref.ensures.value ∙ ap (λ (r : RingView). r.points) c.self.view_is in
    c.round.ensures
    ∙ order_from-start (head_of (region_digest c.args.inode c.args.region)) c.args.self.now.points c.deref.result.now c.head.result c.start-start.result same
    (c.head.ensures ∙ ap head_of c.of_region-digest.ensures) c.start-start.ensures.value

in_order : (c : goal.After-round) → IsOrder c.args.self.now.servers c.round.result.items
in_order c =
    subst (IsOrder c.args.self.now.servers) (sym (servers c)) (IsOrder-order_from c.args.self.now.servers (head_of (region_digest c.args.inode c.args.region)) c.args.self.now.points
    (subst (λ (r : RingView). IsRing r.servers r.points) c.self.view_is c.self.invariant.0))

pub invariant_of-result : goal.invariant_of-result
invariant_of-result c = (subst (λ n. IsOrder n c.round.result.items) (sym (in_order c).len) (in_order c), omega arith)

pub returns-clause-value : goal.returns-clause-value
returns-clause-value c = λ i. record { servers = servers c i; file = (ap (λ (d : List ℕ). slice_index d 8 % 8) c.of_region-digest.ensures) i }

pub returns-clause-order : goal.returns-clause-order
returns-clause-order c = in_order c
