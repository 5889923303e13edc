use Rattle.std.proofs.Common.{◌^◌, [], subst, sym, ◌∙◌}
use Rattle.std.proofs.lemmas.List.{append-nil}
use Rattle.wtf_overlay.specs.Runs.{SameWithin}
use Rattle.wtf_overlay.specs.Edges.{EdgesIn, is_edge}
use Rattle.wtf_overlay.proofs.Wholes.{same_all}
use Rattle.wtf_overlay.proofs.overlay.Overlay.whole.Goals as goal

pub returns-clause-origins : goal.returns-clause-origins
returns-clause-origins c = λ x.
    let all = c.in_ok-all.all.items in
    let own = append-nil c.deref.result.now ∙ c.deref.ensures ∙ c.self.view_is in
    let same = subst (λ es. SameWithin 0 (2 ^ 32) es all) own c.in_ok-all.ensures.shows in
    sym (same_all c.args.self.now all same [] x)

pub returns-clause-edges : goal.returns-clause-edges
returns-clause-edges c =
    let own = append-nil c.deref.result.now ∙ c.deref.ensures ∙ c.self.view_is in
    subst (λ es. EdgesIn (is_edge es) c.in_ok-all.all.items) own c.in_ok-all.ensures.edges
