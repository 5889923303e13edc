use Rattle.std.proofs.Common.{ℕ, Bool, subst}
use Rattle.std.specs.Prelude.{IfOk}
use Rattle.wtf_overlay.specs.Edges.{EdgesIn}
use Rattle.wtf_overlay.proofs.tails.with_above.Goals as goal

pub returns-clause-edges : goal.returns-clause-edges
returns-clause-edges c =
    subst (λ es. IfOk c.merge.result (λ v. (p : ℕ → Bool) → EdgesIn p c.args.run.now → EdgesIn p es → EdgesIn p v.items))
    c.as_slice.ensures.value c.merge.ensures.edges
