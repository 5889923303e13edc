use Rattle.std.proofs.Common.{◌<◌, nat_eq, subst, sym, List}
use Rattle.std.specs.List.{All, IsDistinct}
use Rattle.std.proofs.lemmas.List.Elements.{All-take, All-drop}
use Rattle.wtf_ring.specs.declared.point.Point.{Point}
use Rattle.wtf_ring.proofs.Meeting.{nothing_twice, met_behind}
use Rattle.wtf_ring.proofs.meet.round.Goals as goal

pub meet-requires-clause-once : goal.meet-requires-clause-once
meet-requires-clause-once c = subst (IsDistinct nat_eq) (sym c.new-met.ensures) nothing_twice

pub meet-requires-clause-points : goal.meet-requires-clause-points
meet-requires-clause-points c =
    let known : List Point → Type 0 = λ l. All (λ (p : Point). p.server < 16) l in
    subst known (sym c.split_at.ensures.back) (All-drop (λ (p : Point). p.server < 16) c.args.start c.args.points.now c.requires.points)

pub meet-requires-2-clause-points : goal.meet-requires-2-clause-points
meet-requires-2-clause-points c =
    let known : List Point → Type 0 = λ l. All (λ (p : Point). p.server < 16) l in
    subst known (sym c.split_at.ensures.front) (All-take (λ (p : Point). p.server < 16) c.args.start c.args.points.now c.requires.points)

pub returns : goal.returns
returns c = met_behind _ _ _ _ _ _ _ c.split_at.ensures.back c.split_at.ensures.front c.new-met.ensures c.meet.ensures.value c.meet-2.ensures.value
