use Rattle.std.proofs.Common.{ℕ, Bool, [], subst}
use Rattle.std.specs.Prelude.{IfOk}
use Rattle.std.proofs.lemmas.Result.{IfOk-weaker}
use Rattle.wtf_overlay.specs.Edges.{EdgesIn}
use Rattle.wtf_overlay.proofs.tails.laid.Goals as goal

pub returns-clause-edges : goal.returns-clause-edges
returns-clause-edges c =
    let r = c.laid_under.result in
    let tail = c.args.tail.now in
    IfOk-weaker r (λ v. (p : ℕ → Bool) → EdgesIn p [] → EdgesIn p tail → EdgesIn p v.items) (λ v. (p : ℕ → Bool) → EdgesIn p tail → EdgesIn p v.items)
    (λ v laid p. laid p tt)
    (subst (λ es. IfOk r (λ v. (p : ℕ → Bool) → EdgesIn p es → EdgesIn p tail → EdgesIn p v.items)) c.new.ensures.items c.laid_under.ensures.edges)
