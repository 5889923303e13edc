use Rattle.std.proofs.Common.{◌+◌, ◌++◌, [], ap, subst, sym, ◌∙◌, arith}
use Rattle.wtf_overlay.specs.Origin.{origin}
use Rattle.wtf_overlay.specs.Edges.{EdgesIn, is_edge}
use Rattle.wtf_overlay.proofs.overlay.Overlay.plan_with.Goals as goal

pub returns-clause-origins : goal.returns-clause-origins
returns-clause-origins c =
    let p = c.in_ok-out.ensures.origins in
    record {
      len = p.len;
      origin = λ i k.
          let y = c.args.off + i in
          p.origin i k ∙ ap (λ es. origin es y) c.as_slice.ensures.value
          ∙ sym (c.in_ok-all.ensures.shows [] y (omega arith) (omega arith))
          ∙ ap (λ es. origin (es ++ c.args.more.now) y) (c.deref.ensures ∙ c.self.view_is);
    }

pub returns-clause-count : goal.returns-clause-count
returns-clause-count c =
    let more = c.args.more.now in
    let own = c.deref.ensures ∙ c.self.view_is in
    c.in_ok-out.ensures.count (c.args.self.now ++ more)
    (rw c.as_slice.ensures.value (subst (λ es. EdgesIn (is_edge (es ++ more)) c.in_ok-all.all.items) own c.in_ok-all.ensures.edges))
