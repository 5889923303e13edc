use Rattle.std.proofs.Common.{rules, nat_lt, arith, sym, subst, length, ◌≡◌, ap, ◌∙◌}
use Rattle.std.proofs.lemmas.List.Sorted.{IsPartitionPoint-from_clause, IsPartitionedBy-ltb}
use Rattle.std.specs.List.Sorted.{IsNonDecreasingBy}
use Rattle.wtf_ring.specs.Points.{RingView, below}
use Rattle.wtf_ring.specs.declared.point.Point.{Point}
use Rattle.wtf_ring.proofs.Rings.{IsRing-rises, below_is}
use Rattle.wtf_ring.proofs.ring.Ring.start.Goals as goal

pub returns-clause-value : goal.returns-clause-value
returns-clause-value c =
    let same : c.deref.result.now ≡ c.args.self.now.points = c.deref.ensures.value ∙ ap (λ (r : RingView). r.points) c.self.view_is in
    let rises : IsNonDecreasingBy (λ (p : Point). p.at) c.deref.result.now =
    subst (IsNonDecreasingBy (λ (p : Point). p.at)) (sym c.deref.ensures.value) (IsRing-rises c.self.inside.servers c.self.inside.points.items c.self.invariant.0) in
    let parted = IsPartitionedBy-ltb (λ (p : Point). p.at) c.deref.result.now c.args.position rises in
    let point = IsPartitionPoint-from_clause (λ (p : Point). nat_lt p.at c.args.position) c.deref.result.now c.partition_point.result c.partition_point.ensures.partitioned parted (λ a r q k. search rules) in
    below_is c.args.position c.deref.result.now c.partition_point.result c.partition_point.ensures.bound point
    ∙ ap (below c.args.position) same

pub returns-clause-within : goal.returns-clause-within
returns-clause-within c =
    let same : c.deref.result.now ≡ c.args.self.now.points = c.deref.ensures.value ∙ ap (λ (r : RingView). r.points) c.self.view_is in
    omega (arith, c.partition_point.ensures.bound, ap length same)
