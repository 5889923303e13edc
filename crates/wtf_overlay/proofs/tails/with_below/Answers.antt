use Rattle.std.proofs.Common.{ℕ, Bool, [], ◌∷◌, subst}
use Rattle.std.specs.Prelude.{IfOk}
use Rattle.wtf_overlay.specs.Edges.{EdgesIn}
use Rattle.wtf_overlay.proofs.tails.with_below.Goals as goal

pub returns-then-not-is_empty-clause-edges : goal.returns-then-not-is_empty-clause-edges
returns-then-not-is_empty-clause-edges c =
    subst (λ es. IfOk c.merge.result (λ v. (p : ℕ → Bool) → EdgesIn p es → EdgesIn p (c.args.e.now ∷ []) → EdgesIn p v.items))
    c.as_slice.ensures.value c.merge.ensures.edges
