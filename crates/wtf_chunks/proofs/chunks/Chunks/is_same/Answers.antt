use Rattle.std.proofs.Common.{sym, ap₂, ◌++◌, ◌∙◌}
use Rattle.std.specs.Rc.{rc_slice_items}
use Rattle.wtf_chunks.proofs.Joined.{pointwise-same, chunks-same}
use Rattle.wtf_chunks.proofs.chunks.Chunks.is_same.Goals as goal

pub returns-then-eq : goal.returns-then-eq
returns-then-eq g c = λ same.
    let eq = g.T.PartialEq.eq in
    let sealed = chunks-same eq c.requires.exact rc_slice_items c.self.inside.sealed.items c.other.inside.sealed.items (sym c.eq.ensures ∙ c.if-eq.true) in
    let last = pointwise-same eq c.requires.exact c.self.inside.last.items c.other.inside.last.items (sym c.eq-then-eq.ensures ∙ same) in
    sym c.self.view_is ∙ ap₂ (λ a b. a ++ b) sealed last ∙ c.other.view_is
