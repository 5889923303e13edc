use Rattle.std.proofs.Common.{◌≡◌, ◌++◌, [], ◌∷◌, map, ap, ◌∙◌, sym, append_assoc, arith}
use Rattle.std.specs.List.{range_with_len}
use Rattle.std.proofs.lemmas.List.FromFn.{map-range_with_len_more}
use Rattle.wtf_ring.specs.Points.{point_of}
use Rattle.wtf_ring.proofs.point.add_points.Goals as goal

pub loop-node-preserved : goal.loop-node-preserved
loop-node-preserved c =
    let f = point_of c.args.server in
    c.in_ok-push.ensures.items
    ∙ ap (λ l. l ++ c.of.result ∷ []) c.loop-node.invariant
    ∙ append_assoc c.args.points.now.items (map f (range_with_len 0 c.loop-node.node)) (c.of.result ∷ [])
    ∙ ap (λ p. c.args.points.now.items ++ (map f (range_with_len 0 c.loop-node.node) ++ p ∷ [])) c.of.ensures
    ∙ ap (λ l. c.args.points.now.items ++ l) (sym (map-range_with_len_more f 0 c.loop-node.node c.loop-node.node (omega arith)))

pub returns : goal.returns
returns c = let sixteen : c.loop-node.node ≡ 16 = omega arith in rw sixteen at c.loop-node.invariant
